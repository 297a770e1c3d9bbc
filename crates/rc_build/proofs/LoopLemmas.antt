-- The turns of a loop: what their values and their body give together.
use Rattle.std.proofs.Common.{◌≡◌, Bool, true, false, List, [], ◌∷◌, ◌++◌, Option, Some, None, refl, sym, ap, ◌∙◌}
use Rattle.std.proofs.Common.{Result, Ok, subst}
use Rattle.std.specs.Prelude.{option_map}
use Rattle.std.specs.Option.{option_to_list}
use Rattle.rc_names.specs.Numbers.{BlockId, is_among}
use Rattle.rc_hir.specs.Model.{Fault, HirFunction, Environment}
use Rattle.rc_tree.specs.Model.{ReactiveStatement, ReactiveValue}
use Rattle.rc_runs.specs.Frames.{is_jump_target}
use Rattle.rc_runs.specs.ListContext.{ListContext, ValueContext, value_context}
use Rattle.rc_runs.specs.LoopParts.{LoopBlocks, first_of, loop_frame, turn_start}
use Rattle.rc_runs.specs.PlainTree.{Value}
use Rattle.rc_runs.specs.TreeOf.{value_of}
use Rattle.rc_runs.specs.Grammar.{SpellsBefore, no_value, some_value, turns}
use Rattle.rc_runs.specs.ValueEnd.{ValueEnd}
use Rattle.rc_runs.specs.LoopValues.{SpellsGoing, SpellsTest}
use Rattle.rc_runs.specs.ValueGrammar.{SpellsValue}
use Rattle.rc_runs.proofs.OneTree.{one_before}
use Rattle.rc_runs.proofs.OneValue.{one_test}
use Rattle.rc_build.specs.declared.builder.Builder.{Builder}
use Rattle.rc_build.specs.declared.builder.Site.{Site}
use Rattle.rc_build.specs.declared.loops.LoopTerminal.{LoopTerminal}
use Rattle.rc_build.specs.declared.loops.TurnValues.{TurnValues}
use Rattle.rc_build.specs.inside.CanBuild.{AreMarked, IsUsed}
use Rattle.rc_build.specs.inside.LoopKinds.{before_of, blocks_of, is_flat, value_blocks}
use Rattle.rc_build.specs.inside.Loops.{BuildsBefore, SpellsLoopBefore, SpellsLoopTest, SpellsTurnsOf, TurnValuesBuilt}
use Rattle.rc_build.specs.inside.Loops.{TurnsBuilt}
use Rattle.rc_build.specs.inside.Marks.{MarksBlocks}
use Rattle.rc_build.specs.inside.Setting.{Setting, part_setting, setting_of}
use Rattle.rc_build.specs.inside.Task.{FromBlock, Progress, Spells, progress_of}
use Rattle.rc_build.specs.inside.Built.{BuiltList, BuiltPart, Refused}
use Rattle.rc_build.specs.inside.Values.{BuildsShown}
use Rattle.rc_build.proofs.BuiltLemmas.{marking_beside, marking_none, marking_then, refused_back, refused_front}
use Rattle.rc_build.proofs.LoopKindLemmas.{among_first}
use Rattle.rc_build.proofs.MarksLemmas.{among_back, among_front}
use Rattle.rc_build.proofs.ValueLemmas.{value_starts}

-- a value that is refused is refused before a test
refused_there : {hir : HirFunction} {env : Environment} {blocks : LoopBlocks} {context : ListContext} {key : BlockId}
    (used : List BlockId)
    → Refused hir (SpellsGoing hir env blocks.flat key (value_context blocks.span context) blocks.test) used
    → Refused hir (SpellsBefore hir env blocks context (Some key)) used
refused_there used none whole newly (some_value {value = value} d) sound = none value newly d sound

-- the value before a test: none, or the one from the block on
module _ {hir : HirFunction} {env : Environment} {blocks : LoopBlocks} {context : ListContext} {at : Option BlockId} where
  pub before_none : {old : Progress} → at ≡ None → AreMarked hir old.marks
      → BuiltPart (option_map value_of) (SpellsBefore hir env blocks context at) hir (option_to_list at) None old old
  before_none {old} e m = record {
    value = None;
    newly = [];
    is = refl;
    spelled = subst (λ z. SpellsBefore hir env blocks context z None []) (sym e) no_value;
    marking = subst (λ z. MarksBlocks hir (option_to_list z) [] old.marks old.marks []) (sym e)
        (marking_none hir [] old.marks m);
    kept = refl;
  }

  module _ {key : BlockId} where
    pub before_some : {built : ReactiveValue} {old new : Progress} → at ≡ Some key
        → BuiltPart value_of (SpellsGoing hir env blocks.flat key (value_context blocks.span context) blocks.test) hir
        (key ∷ []) built old new
        → BuiltPart (option_map value_of) (SpellsBefore hir env blocks context at) hir (option_to_list at) (Some built)
        old new
    before_some {old = old} {new = new} e b = record {
      value = Some b.value;
      newly = b.newly;
      is = ap Some b.is;
      spelled = subst (λ z. SpellsBefore hir env blocks context z (Some b.value) b.newly) (sym e) (some_value b.spelled);
      marking = subst (λ z. MarksBlocks hir (option_to_list z) [] old.marks new.marks b.newly) (sym e) b.marking;
      kept = b.kept;
    }

    pub before_refused : (used : List BlockId) → at ≡ Some key
        → Refused hir (SpellsGoing hir env blocks.flat key (value_context blocks.span context) blocks.test) used
        → Refused hir (SpellsBefore hir env blocks context at) used
    before_refused used e none =
        subst (λ z. Refused hir (SpellsBefore hir env blocks context z) used) (sym e) (refused_there used none)

-- what is built before a test, where the same is said in other words
pub before_at : (t : LoopTerminal) {old new : Builder} {site : Site} {a b : Option BlockId} {flat other : Bool}
    {result : Result (Option ReactiveValue) Fault} → a ≡ b → flat ≡ other → BuildsBefore old new site t flat a result
    → BuildsBefore old new site t other b result
before_at t {old} {new} {site} {a} {b} {flat} {other} {result} e f built =
    subst (λ z. BuildsBefore old new site t z b result) f
    (subst (λ z. BuildsBefore old new site t flat z result) e built)

-- what `build_test` ensures of a loop's test, flattened or not
abbrev pub BuildsTest : Builder → Builder → Site → LoopTerminal → Bool → Result ReactiveValue Fault → Type 0
BuildsTest old new site t flat result = BuildsShown old new site t.test (SpellsTest old.hir.now old.env.now flat t.test
    (value_context t.span (setting_of old site).context) t.body t.fallthrough) result

pub test_at : (t : LoopTerminal) {old new : Builder} {site : Site} {flat other : Bool}
    {result : Result ReactiveValue Fault}
    → flat ≡ other → BuildsTest old new site t flat result → BuildsTest old new site t other result
test_at t {old} {new} {site} {result = result} f built = subst (λ z. BuildsTest old new site t z result) f built

-- a value uses its first block
value_used : {hir : HirFunction} {env : Environment} {key : BlockId} {context : ValueContext} {value : Value}
    {end : ValueEnd} {used : List BlockId} → SpellsValue hir env key context value end used → is_among used key ≡ true
value_used {key = key} d =
    let starts = value_starts d in subst (λ z. is_among z key ≡ true) (sym starts.1) (among_first key starts.0)

module _ (s : Setting) (t : LoopTerminal) where
  -- what is built before the test in the same setting
  before_built : {before : Option ReactiveValue} {old new : Progress} (later : Setting) → later ≡ s
      → BuiltPart (option_map value_of)
      (SpellsBefore later.hir later.env (blocks_of t) later.context (before_of t.kind)) later.hir
      (option_to_list (before_of t.kind)) before old new
      → BuiltPart (option_map value_of) (SpellsLoopBefore s t) s.hir (option_to_list (before_of t.kind)) before old new
  before_built {before} {old} {new} later same built = subst (λ (z : Setting). BuiltPart (option_map value_of)
      (SpellsBefore z.hir z.env (blocks_of t) z.context (before_of t.kind)) z.hir (option_to_list (before_of t.kind))
      before old new) same built

  -- the block with which the turns begin is used by their values
  pub start_used : {test : Value} {front : List BlockId} (at : Option BlockId) {before : Option Value}
      {back : List BlockId} → SpellsLoopTest s t test front → SpellsBefore s.hir s.env (blocks_of t) s.context at before back
      → is_among (front ++ back) (first_of at t.test) ≡ true
  start_used {front = front} None {back = back} d no_value = among_front front [] t.test (value_used d.spelled)
  start_used {front = front} (Some key) {back = back} d (some_value e) =
      among_back front back key (value_used e.spelled)

  abbrev turn_with : Option ReactiveValue → ReactiveValue → TurnValues
  turn_with before test = record { before = before; test = test }

  module _ {turn : TurnValues} {old second : Progress} (built : TurnValuesBuilt s t turn old second) where
    -- the values of a turn are marked
    pub values_marked : MarksBlocks s.hir (value_blocks t) [] old.marks second.marks
        (built.tested.newly ++ built.begun.newly)
    values_marked = marking_then s.hir (marking_beside s.hir built.tested.marking) built.begun.marking

    pub start_marked : IsUsed second.marks (turn_start (blocks_of t))
    start_marked = subst (λ z. is_among z (turn_start (blocks_of t)) ≡ true) (sym values_marked.used)
        (among_back old.marks.used (built.tested.newly ++ built.begun.newly) (turn_start (blocks_of t))
        (start_used (before_of t.kind) built.tested.spelled built.begun.spelled))

    -- the turns are built where their parts are
    pub turns_built : {body : List ReactiveStatement} {last : Progress}
        → is_jump_target s.context.frames t.fallthrough ≡ false
        → is_jump_target s.context.frames (turn_start (blocks_of t)) ≡ false
        → BuiltList (part_setting (Some t.fallthrough) (loop_frame (blocks_of t)) s) t.body body second last
        → TurnsBuilt s t (turn, body) old last
    turns_built {body} falls starts d =
        let f = built.tested in
        let b = built.begun in record {
          value = record { before = b.value; test = f.value; body = d.value };
          newly = f.newly ++ (b.newly ++ d.newly);
          is = ap (λ z. (turn_with z turn.test, body)) b.is
              ∙ ap (λ z. (turn_with (option_map value_of b.value) z, body)) f.is
              ∙ ap (λ z. (turn_with (option_map value_of b.value) (value_of f.value), z)) d.is;
          spelled = turns falls starts f.spelled b.spelled d.spelled refl;
          marking = marking_then s.hir (marking_beside s.hir f.marking)
              (marking_then s.hir (marking_beside s.hir b.marking) d.marking);
          kept = d.kept ∙ b.kept ∙ f.kept;
        }

    -- turns whose body is refused after their values are refused
    pub turns_refused_body :
        Refused s.hir (Spells (part_setting (Some t.fallthrough) (loop_frame (blocks_of t)) s) (FromBlock t.body))
        second.marks.used
        → Refused s.hir (SpellsTurnsOf s t) old.marks.used
    turns_refused_body none parts blocks
        (turns {test_used = front} {before_used = middle} {body_used = back} x y td bd ld w) sound =
        none parts.body back ld (refused_back s.hir built.mid.marks.used built.begun.newly back
        (refused_back s.hir old.marks.used built.tested.newly (middle ++ back) sound
        (w ∙ ap (λ z. z ++ (middle ++ back)) (one_test td built.tested.spelled).1) built.tested.marking.used)
        (ap (λ z. z ++ back) (one_before bd built.begun.spelled).1) built.begun.marking.used)

  -- so are turns whose value before the test is refused once the test is built
  pub turns_refused_before : {test : ReactiveValue} {old first : Progress}
      → BuiltPart value_of (SpellsLoopTest s t) s.hir (t.test ∷ []) test old first
      → Refused s.hir (SpellsLoopBefore s t) first.marks.used
      → Refused s.hir (SpellsTurnsOf s t) old.marks.used
  turns_refused_before {old = old} {first} f none parts blocks
      (turns {test_used = front} {before_used = middle} {body_used = back} x y td bd ld w) sound =
      none parts.before middle bd (refused_front s.hir first.marks.used middle back
      (refused_back s.hir old.marks.used f.newly (middle ++ back) sound
      (w ∙ ap (λ z. z ++ (middle ++ back)) (one_test td f.spelled).1) f.marking.used) refl)

  -- and turns whose test is refused
  pub turns_refused_test : (used : List BlockId) → Refused s.hir (SpellsLoopTest s t) used
      → Refused s.hir (SpellsTurnsOf s t) used
  turns_refused_test used none parts blocks
      (turns {test_used = front} {before_used = middle} {body_used = back} x y td bd ld w) sound =
      none parts.test front td (refused_front s.hir used front (middle ++ back) sound w)

-- the values of a turn are built one after the other
pub values_built : (t : LoopTerminal) {old mid late : Builder} (site : Site) {flat : Bool} {at : Option BlockId}
    {test : ReactiveValue} {before : Option ReactiveValue} → flat ≡ is_flat t.kind → at ≡ before_of t.kind
    → BuildsTest old mid site t flat (Ok test) → BuildsBefore mid late site t flat at (Ok before)
    → TurnValuesBuilt (setting_of old site) t (record { before = before; test = test }) (progress_of old)
    (progress_of late)
values_built t {old} {mid} site f e test before =
    let s = setting_of old site in
    let tested = test_at t f test in
    let begun = before_at t e f before in record {
      mid = progress_of mid;
      tested = tested.ok;
      begun = before_built s t (setting_of mid site) tested.frames begun.ok;
    }
