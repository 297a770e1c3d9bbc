-- Value terminals in lists: the row, and what follows it.
use Rattle.std.proofs.Common.{◌≡◌, Bool, true, false, List, [], ◌∷◌, ◌++◌, Option, Some, None, refl, sym, ap, ◌∙◌}
use Rattle.std.proofs.Common.{append_assoc, arith, subst, inl}
use Rattle.std.specs.Prelude.{is_some}
use Rattle.std.proofs.lemmas.Bool.{not-false}
use Rattle.rc_names.specs.Numbers.{BlockId, EvaluationOrder}
use Rattle.rc_names.specs.declared.span.Span.{Span}
use Rattle.rc_hir.specs.Model.{Place, Terminal, HirFunction, Environment}
use Rattle.rc_hir.specs.declared.fault.Rule.TheVariants.{FallsElsewhere}
use Rattle.rc_tree.specs.Model.{ReactiveStatement, ReactiveValue}
use Rattle.rc_tree.specs.declared.statement.ReactiveStatement.TheVariants as reactive
use Rattle.rc_runs.specs.declared.frames.Frame.{Frame}
use Rattle.rc_runs.specs.Frames.{is_jump_target}
use Rattle.rc_runs.specs.ListContext.{ListContext}
use Rattle.rc_runs.specs.PlainTree.{Statement, Statements}
use Rattle.rc_runs.specs.TreeOf.{value_of}
use Rattle.rc_runs.specs.Fallthrough.{falls_to, opens}
use Rattle.rc_runs.specs.Grammar.{SpellsTerminal, SpellsStatement, and_rest, value_statement}
use Rattle.rc_runs.specs.ShortArms.{SpellsShortArm, no_arm, own_arm}
use Rattle.rc_runs.specs.ValueGrammar.{Nested, SpellsNested, sequence_value, ternary_value, logical_value}
use Rattle.rc_runs.specs.ValueGrammar.{optional_value}
use Rattle.rc_runs.proofs.OneValue.{one_nested}
use Rattle.rc_build.specs.declared.builder.Marks.{Marks}
use Rattle.rc_build.specs.declared.short_arms.ShortArm.{ShortArm}
use Rattle.rc_build.specs.declared.value_terminals.NestedValue.{NestedValue}
use Rattle.rc_build.specs.declared.value_terminals.ValueKind.{ValueKind}
use Rattle.rc_build.specs.declared.value_terminals.ValueKind.TheVariants as kinds
use Rattle.rc_build.specs.declared.value_terminals.ValueTerminal.{ValueTerminal}
use Rattle.rc_build.specs.References.{fallthrough_of, referenced_blocks}
use Rattle.rc_build.specs.RuleFacts.{RuleFact}
use Rattle.rc_build.specs.inside.Built.{BuiltPrefix, Refused}
use Rattle.rc_build.specs.inside.CanBuild.{AreReferenced, CanBuildTerminal, pending_blocks}
use Rattle.rc_build.specs.inside.Marks.{MarksBlocks}
use Rattle.rc_build.specs.inside.Setting.{Setting, open_block}
use Rattle.rc_build.specs.inside.Task.{FromTerminal, Progress, Spells, left}
use Rattle.rc_build.specs.inside.ValueKinds.{terminal_of, terminal_with, with_kind}
use Rattle.rc_build.specs.inside.ShortArms.{CanBuildShort, ShortBuilt, arm_blocks, alternate_of}
use Rattle.rc_build.specs.inside.ValueTerminals.{CanBuildNested, NestedBuilt}
use Rattle.rc_build.proofs.BuiltLemmas.{is_some-opened, marking_beside, marking_drop, marking_then, refused_back, refused_front}
use Rattle.rc_build.proofs.BuiltLemmas.{statement_prefix}
use Rattle.rc_build.proofs.MarksLemmas.{referenced_fewer, times_append}
use Rattle.rc_build.proofs.StatementLemmas.{target_apart}

-- the fallthrough of a value terminal
falls_kind : (kind : ValueKind) (fallthrough : BlockId) (id : EvaluationOrder) (span : Option Span)
    → fallthrough_of (terminal_with kind fallthrough id span) ≡ Some fallthrough
falls_kind (kinds.Sequence block) fallthrough id span = refl
falls_kind (kinds.Ternary test) fallthrough id span = refl
falls_kind (kinds.Logical operator test) fallthrough id span = refl
falls_kind (kinds.Optional optional test) fallthrough id span = refl

shut : (is_open : Bool) (fallthrough : BlockId) (next : Option BlockId) → falls_to is_open fallthrough next ≡ false
    → is_open ≡ false
shut true fallthrough next e = e
shut false fallthrough next e = refl

module _ {hir : HirFunction} {marks : Marks} {handler : Option BlockId} {frames : List Frame} {key : BlockId}
    (terminal : ValueTerminal)
    (can : CanBuildTerminal hir marks handler frames key (terminal_of terminal)) where
  -- a fallthrough that isn't opened, and isn't the next block, is framed apart
  pub falls_fact : {at : Option BlockId} (next : Option BlockId)
      → at ≡ open_block (opens frames terminal.fallthrough) terminal.fallthrough
      → falls_to (is_some at) terminal.fallthrough next ≡ false → RuleFact hir FallsElsewhere key
  falls_fact {at} next is elsewhere = record {
    block = can.here.block;
    found = can.here.found;
    holds = record {
      fallthrough = terminal.fallthrough;
      falls = ap fallthrough_of can.here.holds ∙ falls_kind terminal.kind terminal.fallthrough terminal.id terminal.span;
      bad = inl (target_apart can (not-false (is_jump_target frames terminal.fallthrough)
          (sym (is_some-opened (opens frames terminal.fallthrough) terminal.fallthrough is)
          ∙ shut (is_some at) terminal.fallthrough next elsewhere)));
    };
  }

  -- its value can be built
  pub nested_can : CanBuildNested hir marks terminal
  nested_can = record {
    marked = can.marked;
    referenced = referenced_fewer hir marks.used (referenced_blocks (terminal_of terminal))
        (referenced_blocks (terminal_of terminal) ++ pending_blocks frames)
        (λ other. omega (arith, times_append other (referenced_blocks (terminal_of terminal)) (pending_blocks frames)))
        can.referenced;
    owner = key;
    here = can.here;
  }

  -- and then its short arm
  pub nested_short_can : {env : Environment} {built : NestedValue} {old new : Progress} → old.marks ≡ marks
      → NestedBuilt hir env handler terminal built old new → CanBuildShort hir new.marks built.short
  nested_short_can {built = built} {old} {new} same b = record {
    marked = b.marking.marked;
    referenced = referenced_fewer hir new.marks.used (arm_blocks built.short)
        ((terminal.fallthrough ∷ arm_blocks built.short) ++ pending_blocks frames)
        (λ other. omega (
          arith,
          times_append other (terminal.fallthrough ∷ arm_blocks built.short) (pending_blocks frames),
          times_append other (terminal.fallthrough ∷ []) (arm_blocks built.short),
        ))
        (b.marking.referenced (pending_blocks frames)
        (subst (λ (z : Marks). AreReferenced hir z.used (referenced_blocks (terminal_of terminal) ++ pending_blocks frames))
        (sym same) can.referenced));
    short_is = b.is.short;
  }

-- the fallthrough, id and span of what is spelled are those of the terminal
pub record SameEnds (terminal : ValueTerminal) (nested : Nested) : Type 0 where
  pub falls : nested.fallthrough ≡ terminal.fallthrough
  pub id : nested.id ≡ terminal.id
  pub span : nested.span ≡ terminal.span

-- the parts of a value terminal in a list, and the blocks that are used after it
record ValuePart (hir : HirFunction) (env : Environment) (terminal : Terminal) (context : ListContext)
    (used : List BlockId) : Type 0 where
  pub nested : Nested
  pub is_open : Bool
  pub nested_used : List BlockId
  pub arm_used : List BlockId
  pub rest : List BlockId
  pub opened : is_open ≡ opens context.frames nested.fallthrough
  pub falls : falls_to is_open nested.fallthrough context.next ≡ true
  pub spelled : SpellsNested hir env context.handler terminal nested nested_used
  pub arm : SpellsShortArm hir env context.handler nested.fallthrough false nested.short None None arm_used
  pub whole : used ≡ nested_used ++ (arm_used ++ rest)

module _ {hir : HirFunction} {env : Environment} where
  made : {terminal : Terminal} {context : ListContext} {part used : List BlockId} (is_open : Bool) (nested : Nested)
      (nested_used arm_used rest : List BlockId) → is_open ≡ opens context.frames nested.fallthrough
      → falls_to is_open nested.fallthrough context.next ≡ true
      → SpellsNested hir env context.handler terminal nested nested_used
      → SpellsShortArm hir env context.handler nested.fallthrough false nested.short None None arm_used
      → part ≡ nested_used ++ arm_used → used ≡ part ++ rest → ValuePart hir env terminal context used
  made is_open nested x y rest e f d a u w = record {
    nested = nested;
    is_open = is_open;
    nested_used = x;
    arm_used = y;
    rest = rest;
    opened = e;
    falls = f;
    spelled = d;
    arm = a;
    whole = w ∙ ap (λ z. z ++ rest) u ∙ append_assoc x y rest;
  }

  pub same_ends : (kind : ValueKind) (fallthrough : BlockId) (id : EvaluationOrder) (span : Option Span)
      {handler : Option BlockId} {nested : Nested} {used : List BlockId}
      → SpellsNested hir env handler (terminal_with kind fallthrough id span) nested used
      → SameEnds (with_kind kind fallthrough id span) nested
  same_ends (kinds.Sequence block) fallthrough id span (sequence_value d g) =
      record { falls = refl; id = refl; span = refl }
  same_ends (kinds.Ternary test) fallthrough id span (ternary_value t c d g e h u) =
      record { falls = refl; id = refl; span = refl }
  same_ends (kinds.Logical operator test) fallthrough id span (logical_value t c d s e h u) =
      record { falls = refl; id = refl; span = refl }
  same_ends (kinds.Optional optional test) fallthrough id span (optional_value t c a d g u) =
      record { falls = refl; id = refl; span = refl }

  statement_part : (kind : ValueKind) (fallthrough : BlockId) (id : EvaluationOrder) (span : Option Span)
      {context : ListContext} {is_open : Bool} {falls : BlockId} {statement : Statement} {part used : List BlockId}
      (rest : List BlockId)
      → SpellsStatement hir env (terminal_with kind fallthrough id span) context is_open falls statement part
      → used ≡ part ++ rest → ValuePart hir env (terminal_with kind fallthrough id span) context used
  statement_part (kinds.Sequence block) fallthrough id span {is_open = o} rest
      (value_statement {nested = n} {nested_used = x} {arm_used = y} e f d a u) w =
      made o n x y rest e f d a u w
  statement_part (kinds.Ternary test) fallthrough id span {is_open = o} rest
      (value_statement {nested = n} {nested_used = x} {arm_used = y} e f d a u) w =
      made o n x y rest e f d a u w
  statement_part (kinds.Logical operator test) fallthrough id span {is_open = o} rest
      (value_statement {nested = n} {nested_used = x} {arm_used = y} e f d a u) w =
      made o n x y rest e f d a u w
  statement_part (kinds.Optional optional test) fallthrough id span {is_open = o} rest
      (value_statement {nested = n} {nested_used = x} {arm_used = y} e f d a u) w =
      made o n x y rest e f d a u w

  part_of : (kind : ValueKind) (fallthrough : BlockId) (id : EvaluationOrder) (span : Option Span)
      {context : ListContext} {all : Statements} {used : List BlockId}
      → SpellsTerminal hir env (terminal_with kind fallthrough id span) context all used
      → ValuePart hir env (terminal_with kind fallthrough id span) context used
  part_of (kinds.Sequence block) fallthrough id span (and_rest {rest_used = rest} d r w) =
      statement_part (kinds.Sequence block) fallthrough id span rest d w
  part_of (kinds.Ternary test) fallthrough id span (and_rest {rest_used = rest} d r w) =
      statement_part (kinds.Ternary test) fallthrough id span rest d w
  part_of (kinds.Logical operator test) fallthrough id span (and_rest {rest_used = rest} d r w) =
      statement_part (kinds.Logical operator test) fallthrough id span rest d w
  part_of (kinds.Optional optional test) fallthrough id span (and_rest {rest_used = rest} d r w) =
      statement_part (kinds.Optional optional test) fallthrough id span rest d w

  -- outside of a test no arm is left open
  none_left : {handler : Option BlockId} {next : BlockId} {short left : Option BlockId} {used : List BlockId}
      → SpellsShortArm hir env handler next false short None left used → left ≡ None
  none_left no_arm = refl
  none_left (own_arm d) = refl

module _ (s : Setting) (terminal : ValueTerminal) where
  part_there : {all : Statements} {blocks : List BlockId} → Spells s (FromTerminal (terminal_of terminal)) all blocks
      → ValuePart s.hir s.env (terminal_of terminal) s.context blocks
  part_there d = part_of terminal.kind terminal.fallthrough terminal.id terminal.span d

  ends_there : {handler : Option BlockId} {nested : Nested} {used : List BlockId}
      → SpellsNested s.hir s.env handler (terminal_of terminal) nested used → SameEnds terminal nested
  ends_there d = same_ends terminal.kind terminal.fallthrough terminal.id terminal.span d

  -- a value terminal that leads elsewhere is refused
  pub value_elsewhere : {at : Option BlockId} (used : List BlockId)
      → at ≡ open_block (opens s.context.frames terminal.fallthrough) terminal.fallthrough
      → falls_to (is_some at) terminal.fallthrough s.context.next ≡ false
      → Refused s.hir (Spells s (FromTerminal (terminal_of terminal))) used
  value_elsewhere {at} used is elsewhere all blocks d sound =
      let p = part_there d in
      let falls = (ends_there p.spelled).falls in
      let is_open : p.is_open ≡ is_some at = p.opened ∙ ap (opens s.context.frames) falls
      ∙ sym (is_some-opened (opens s.context.frames terminal.fallthrough) terminal.fallthrough is) in
      let yes : falls_to (is_some at) terminal.fallthrough s.context.next ≡ true =
      ap (λ z. falls_to z terminal.fallthrough s.context.next) (sym is_open)
      ∙ ap (λ z. falls_to p.is_open z s.context.next) (sym falls) ∙ p.falls in
      let bad : ⊥ = cc in bad

  -- so is one whose value is refused
  pub value_refused : (used : List BlockId) → Refused s.hir
      (SpellsNested s.hir s.env s.context.handler (terminal_of terminal)) used
      → Refused s.hir (Spells s (FromTerminal (terminal_of terminal))) used
  value_refused used none all blocks d sound =
      let p = part_there d in
      none p.nested p.nested_used p.spelled
      (refused_front s.hir used p.nested_used (p.arm_used ++ p.rest) sound p.whole)

  module _ {built : NestedValue} {old mid : Progress}
      (b : NestedBuilt s.hir s.env s.context.handler terminal built old mid) where
    arm_there : {nested : Nested} {used : List BlockId} → nested ≡ b.nested
        → SpellsShortArm s.hir s.env s.context.handler nested.fallthrough false nested.short None None used
        → SpellsShortArm s.hir s.env s.context.handler terminal.fallthrough false (alternate_of built.short) None None
        used
    arm_there {used = used} same d =
        subst (λ z. SpellsShortArm s.hir s.env s.context.handler terminal.fallthrough false z None None used)
        (sym b.is.left)
        (subst (λ z. SpellsShortArm s.hir s.env s.context.handler z false b.nested.short None None used)
        (ends_there b.spelled).falls
        (subst (λ (n : Nested). SpellsShortArm s.hir s.env s.context.handler n.fallthrough false n.short None None
        used) same d))

    -- and one whose short arm is refused
    pub value_refused_arm :
        Refused s.hir (SpellsShortArm s.hir s.env s.context.handler terminal.fallthrough false
        (alternate_of built.short) None) mid.marks.used
        → Refused s.hir (Spells s (FromTerminal (terminal_of terminal))) old.marks.used
    value_refused_arm none all blocks d sound =
        let p = part_there d in
        let one = one_nested p.spelled b.spelled in
        none None p.arm_used (arm_there one.0 p.arm) (refused_front s.hir mid.marks.used p.arm_used p.rest
        (refused_back s.hir old.marks.used b.newly (p.arm_used ++ p.rest) sound
        (p.whole ∙ ap (λ z. z ++ (p.arm_used ++ p.rest)) one.1) b.marking.used) refl)

    -- the row of a value terminal whose parts are built
    pub value_prefix : {at : Option BlockId} {left_arm : Option ShortArm} {late : Progress}
        {out : List ReactiveStatement} → at ≡ open_block (opens s.context.frames terminal.fallthrough) terminal.fallthrough
        → falls_to (is_some at) terminal.fallthrough s.context.next ≡ true
        → ShortBuilt s.hir s.env s.context.handler terminal.fallthrough false built.short None left_arm mid late
        → out ≡ late.out ++ reactive.Instruction (record {
          id = terminal.id;
          lvalue = Some built.answer;
          value = built.value;
          span = terminal.span;
        }) ∷ []
        → BuiltPrefix s (FromTerminal (terminal_of terminal)) (left at) old (record { marks = late.marks; out = out })
    value_prefix {at = at} {left_arm = left_arm} {late = late} {out = out} is falls a e =
        let n = b.nested in
        let ends = ends_there b.spelled in
        let here = is ∙ ap (λ z. open_block (opens s.context.frames z) z) (sym ends.falls) in
        statement_prefix (opens s.context.frames n.fallthrough) here
        (value_statement (is_some-opened (opens s.context.frames n.fallthrough) n.fallthrough here)
        (ap (λ z. falls_to (is_some at) z s.context.next) ends.falls ∙ falls)
        b.spelled (none_open a) refl)
        (e ∙ ap (λ z. z ++ row terminal.id built.answer built.value terminal.span ∷ []) (a.kept ∙ b.kept)
        ∙ ap (λ z. old.out ++ row z built.answer built.value terminal.span ∷ []) (sym ends.id)
        ∙ ap (λ z. old.out ++ row n.id z built.value terminal.span ∷ []) b.is.answer
        ∙ ap (λ z. old.out ++ row n.id n.answer z terminal.span ∷ []) b.is.is
        ∙ ap (λ z. old.out ++ row n.id n.answer (value_of n.value) z ∷ []) (sym ends.span))
        (subst (λ z. MarksBlocks s.hir (referenced_blocks (terminal_of terminal)) (z ∷ []) old.marks late.marks
        (b.newly ++ a.newly)) (sym ends.falls)
        (marking_then s.hir (marking_drop s.hir (λ other. omega (
          arith,
          times_append other (arm_blocks built.short) (terminal.fallthrough ∷ []),
          times_append other (terminal.fallthrough ∷ []) (arm_blocks built.short),
        )) b.marking) (marking_beside s.hir a.marking)))
      where
        row : EvaluationOrder → Place → ReactiveValue → Option Span → ReactiveStatement
        row id answer value span =
            reactive.Instruction (record { id = id; lvalue = Some answer; value = value; span = span })

        none_open : (a : ShortBuilt s.hir s.env s.context.handler terminal.fallthrough false built.short None left_arm
            mid late)
            → SpellsShortArm s.hir s.env s.context.handler b.nested.fallthrough false b.nested.short None None a.newly
        none_open a =
            subst (λ z. SpellsShortArm s.hir s.env s.context.handler z false b.nested.short None None a.newly)
            (sym (ends_there b.spelled).falls)
            (subst (λ z. SpellsShortArm s.hir s.env s.context.handler terminal.fallthrough false z None None a.newly)
            b.is.left
            (subst (λ z. SpellsShortArm s.hir s.env s.context.handler terminal.fallthrough false
            (alternate_of built.short) None z a.newly)
            (none_left a.spelled) a.spelled))
