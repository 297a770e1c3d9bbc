-- What a try is: its block, which the handler protects, and the handler's block, which it doesn't.
use Rattle.std.proofs.Common.{◌≡◌, Bool, true, false, List, [], ◌∷◌, ◌++◌, Option, Some, Result, refl, sym, ap, ◌∙◌}
use Rattle.std.proofs.Common.{subst}
use Rattle.std.specs.Prelude.{is_some}
use Rattle.rc_names.specs.Numbers.{BlockId, EvaluationOrder}
use Rattle.rc_names.specs.declared.span.Span.{Span}
use Rattle.rc_hir.specs.Model.{Place, Fault, HirFunction}
use Rattle.rc_hir.specs.declared.terminal.Terminal.TheVariants as terminals
use Rattle.rc_tree.specs.Model.{ReactiveStatement, ReactiveLabel}
use Rattle.rc_tree.specs.declared.terminal.ReactiveTerminal.TheVariants as tree
use Rattle.rc_runs.specs.declared.frames.Frame.{Frame}
use Rattle.rc_runs.specs.declared.frames.Frame.TheVariants as frame_kinds
use Rattle.rc_runs.specs.ListContext.{ListContext, inside, protected_by}
use Rattle.rc_runs.specs.PlainTree.{Statements, TerminalStatement, Try}
use Rattle.rc_runs.specs.TreeOf.{statements_of}
use Rattle.rc_runs.specs.Fallthrough.{label_of, opens_reachable}
use Rattle.rc_runs.specs.Grammar.{SpellsList, SpellsStatement, SpellsTerminal, try_statement, value_statement, and_rest}
use Rattle.rc_runs.proofs.OneTree.{one_list, part_at, protected_at}
use Rattle.rc_build.specs.declared.builder.Builder.{Builder}
use Rattle.rc_build.specs.declared.builder.Marks.{Marks}
use Rattle.rc_build.specs.declared.builder.Site.{Site}
use Rattle.rc_build.specs.TerminalForms.{is_try}
use Rattle.rc_build.specs.BlockFacts.{HasTry}
use Rattle.rc_build.specs.inside.CanBuild.{CanBuildList, CanBuildTerminal}
use Rattle.rc_build.specs.inside.Setting.{Setting, label_at, open_block, part_setting, setting_of, terminal_statement}
use Rattle.rc_build.specs.inside.Task.{Progress, FromBlock, FromTerminal, left, Spells, progress_of}
use Rattle.rc_build.specs.inside.Built.{Builds, BuiltPrefix, BuiltList, Refused}
use Rattle.rc_build.proofs.BuildsLemmas.{same_graph}
use Rattle.rc_build.proofs.BuiltLemmas.{marking_beside, marking_then, refused_back, refused_front, statement_prefix}
use Rattle.rc_build.proofs.BuiltLemmas.{is_some-opened}
use Rattle.rc_build.proofs.StatementLemmas.{label_at-opened}

-- a graph with a block that ends in a try has a try
pub try_there : {hir : HirFunction} {marks : Marks} {outer : Option BlockId} {frames : List Frame}
    {key block handler fallthrough : BlockId} {binding : Option Place} {id : EvaluationOrder} {span : Option Span}
    → CanBuildTerminal hir marks outer frames key (terminals.Try block binding handler fallthrough id span) → HasTry hir
try_there {key = key} can =
    (key, record { block = can.here.block; found = can.here.found; holds = ap is_try can.here.holds })

-- a list that can be built can be built under the handler of a try
pub protected_can : {hir : HirFunction} {marks : Marks} {outer : Option BlockId} {frames : List Frame} {key : BlockId}
    (handler : BlockId) → HasTry hir → CanBuildList hir marks outer frames key
    → CanBuildList hir marks (Some handler) frames key
protected_can handler tried can = record {
  marked = can.marked;
  handled = tried;
  referenced = can.referenced;
  used_before = can.used_before;
  owned = can.owned;
}

-- what is built of a part at a site
abbrev pub BuildsPart : Builder → Builder → Site → Option BlockId → Frame → BlockId
    → Result (List ReactiveStatement) Fault → Type 0
BuildsPart old new site at frame part result = Builds old new site
    (λ list. BuiltList (part_setting at frame (setting_of old site)) part list (progress_of old) (progress_of new))
    (Refused old.hir.now (Spells (part_setting at frame (setting_of old site)) (FromBlock part)) old.marks.used) result

-- the same, where the site is said in other words
pub part_there : {old new : Builder} {site inner : Site} {part : BlockId}
    {result : Result (List ReactiveStatement) Fault} (at : Option BlockId) (frame : Frame) → inner ≡ site
    → BuildsPart old new inner at frame part result → BuildsPart old new site at frame part result
part_there {old} {new} {part = part} {result} at frame is built =
    subst (λ z. BuildsPart old new z at frame part result) is built

-- what is the same around another site is the same around this one
pub same_elsewhere : (old new : Builder) (site there : Site) → setting_of new there ≡ setting_of old there
    → setting_of new site ≡ setting_of old site
same_elsewhere old new site there e =
    let hir : new.hir.now ≡ old.hir.now = same_graph e in
    let env : new.env.now ≡ old.env.now = ap (λ (z : Setting). z.env) e in
    let frames : new.frames ≡ old.frames = ap (λ (z : Setting). z.context.frames) e in
    cc

-- the setting of what a handler protects
abbrev pub shielded : BlockId → Setting → Setting
shielded handler s = record { hir = s.hir; env = s.env; context = protected_by handler s.context }

-- a part is protected inside the frame as outside of it
protected_inside : (is_open : Bool) (frame : Frame) (handler : BlockId) (context : ListContext)
    → inside is_open frame (protected_by handler context) ≡ protected_by handler (inside is_open frame context)
protected_inside true frame handler context = refl
protected_inside false frame handler context = refl

-- the setting of a try's handler block, and that of its block
abbrev inner : Option BlockId → BlockId → Setting → Setting
inner at fallthrough s = part_setting at (frame_kinds.Statement fallthrough) s

abbrev guarded : Option BlockId → BlockId → BlockId → Setting → Setting
guarded at handler fallthrough s = part_setting at (frame_kinds.Statement fallthrough) (shielded handler s)

-- the parts of a try that is spelled
record TryParts (s : Setting) (at : Option BlockId) (block handler fallthrough : BlockId) (used : List BlockId) :
    Type 0 where
  part : Statements
  other : Statements
  part_used : List BlockId
  other_used : List BlockId
  rest_used : List BlockId
  part_spelled : Spells (guarded at handler fallthrough s) (FromBlock block) part part_used
  other_spelled : Spells (inner at fallthrough s) (FromBlock handler) other other_used
  parts : used ≡ (part_used ++ other_used) ++ rest_used

module _ (s : Setting) (at : Option BlockId) (block handler fallthrough : BlockId) where
  -- the protected block, as the builder asks for it
  into_guarded : (is_open : Bool) {statements : Statements} {used : List BlockId} → is_open ≡ is_some at
      → SpellsList s.hir s.env block
      (protected_by handler (inside is_open (frame_kinds.Statement fallthrough) s.context))
      statements used
      → Spells (guarded at handler fallthrough s) (FromBlock block) statements used
  into_guarded is_open {statements} {used} i d =
      let frame = frame_kinds.Statement fallthrough in
      subst (λ z. SpellsList s.hir s.env block z statements used)
      (sym (protected_inside (is_some at) frame handler s.context))
      (protected_at handler frame s.context (is_some at) is_open i d)

  -- and as the graph asks for it
  from_guarded : {statements : Statements} {used : List BlockId}
      → Spells (guarded at handler fallthrough s) (FromBlock block) statements used
      → SpellsList s.hir s.env block
      (protected_by handler (inside (is_some at) (frame_kinds.Statement fallthrough) s.context)) statements used
  from_guarded {statements} {used} d = subst (λ z. SpellsList s.hir s.env block z statements used)
      (protected_inside (is_some at) (frame_kinds.Statement fallthrough) handler s.context) d

module _ {s : Setting} {at : Option BlockId} {block handler fallthrough : BlockId} {binding : Option Place}
    {id : EvaluationOrder} {span : Option Span}
    (opened : at ≡ open_block (opens_reachable s.hir s.context.frames fallthrough) fallthrough) where
  try_parts : {all : Statements} {used : List BlockId}
      → SpellsTerminal s.hir s.env (terminals.Try block binding handler fallthrough id span) s.context all used
      → TryParts s at block handler fallthrough used
  try_parts (and_rest (value_statement i j n a u) r w) = elim n [ ]
  try_parts (and_rest {rest_used = back} (try_statement {opened = p} {part = part} {other = other} {part_used = first}
      {other_used = second} i l d b q) r w) =
      record {
        part = part;
        other = other;
        part_used = first;
        other_used = second;
        rest_used = back;
        part_spelled = into_guarded s at block handler fallthrough p (i ∙ sym (is_some-opened _ fallthrough opened)) d;
        other_spelled = part_at (frame_kinds.Statement fallthrough) s.context (is_some at) p
            (i ∙ sym (is_some-opened _ fallthrough opened)) b;
        parts = w ∙ ap (λ z. z ++ back) q;
      }

  -- once its parts are built and its statement is appended, the try is built
  pub try_built : {list handling : List ReactiveStatement} {statement : ReactiveStatement} {old mid last : Progress}
      {whole : List ReactiveStatement} → BuiltList (guarded at handler fallthrough s) block list old mid
      → BuiltList (inner at fallthrough s) handler handling mid last
      → statement ≡ terminal_statement
      (tree.Try (record { statements = list }) binding (record { statements = handling }) id) (label_at at)
      → whole ≡ last.out ++ statement ∷ []
      → BuiltPrefix s (FromTerminal (terminals.Try block binding handler fallthrough id span)) (left at) old
      (record { marks = last.marks; out = whole })
  try_built {list} {handling} {statement} {old} {mid} {last} {whole} b d st w =
      statement_prefix (opens_reachable s.hir s.context.frames fallthrough) opened spelled put
      (marking_then s.hir (marking_beside s.hir b.marking) (marking_beside s.hir d.marking))
    where
      spelled : SpellsStatement s.hir s.env (terminals.Try block binding handler fallthrough id span) s.context
          (is_some at) fallthrough
          (TerminalStatement (Try b.value binding d.value id) (label_of (is_some at) fallthrough)) (b.newly ++ d.newly)
      spelled = try_statement (is_some-opened _ fallthrough opened) refl
          (from_guarded s at block handler fallthrough b.spelled) d.spelled refl

      tried : List ReactiveStatement → List ReactiveStatement → Option ReactiveLabel → ReactiveStatement
      tried x y l =
          terminal_statement (tree.Try (record { statements = x }) binding (record { statements = y }) id) l

      put : whole ≡ old.out
          ++ tried (statements_of b.value) (statements_of d.value) (label_of (is_some at) fallthrough) ∷ []
      put = w ∙ ap (λ z. z ++ statement ∷ []) (d.kept ∙ b.kept) ∙ ap (λ z. old.out ++ z ∷ [])
          (st ∙ ap (λ z. tried z handling (label_at at)) b.is ∙ ap (λ z. tried (statements_of b.value) z (label_at at))
          d.is
          ∙ ap (tried (statements_of b.value) (statements_of d.value)) (label_at-opened _ fallthrough opened))

  -- a try whose block is refused is refused
  pub try_refused : (used : List BlockId)
      → Refused s.hir (Spells (guarded at handler fallthrough s) (FromBlock block)) used
      → Refused s.hir (Spells s (FromTerminal (terminals.Try block binding handler fallthrough id span))) used
  try_refused used none all blocks d sound =
      let p = try_parts d in
      none p.part p.part_used p.part_spelled (refused_front s.hir used p.part_used p.other_used
      (refused_front s.hir used (p.part_used ++ p.other_used) p.rest_used sound p.parts) refl)

  -- so is one whose handler is refused after its block
  pub try_refused_later : {list : List ReactiveStatement} {old mid : Progress}
      → BuiltList (guarded at handler fallthrough s) block list old mid
      → Refused s.hir (Spells (inner at fallthrough s) (FromBlock handler)) mid.marks.used
      → Refused s.hir (Spells s (FromTerminal (terminals.Try block binding handler fallthrough id span))) old.marks.used
  try_refused_later {old = old} b none all blocks d sound =
      let p = try_parts d in
      none p.other p.other_used p.other_spelled (refused_back s.hir old.marks.used b.newly p.other_used
      (refused_front s.hir old.marks.used (p.part_used ++ p.other_used) p.rest_used sound p.parts)
      (ap (λ z. z ++ p.other_used) (one_list p.part_spelled b.spelled).1) b.marking.used)
