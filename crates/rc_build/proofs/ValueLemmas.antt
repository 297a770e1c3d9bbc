-- What the builder makes of a value's block, and when no value is spelled from a block.
use Rattle.std.proofs.Common.{◌≡◌, true, false, List, [], ◌∷◌, ◌++◌, Option, Some, None, refl, sym, ap}
use Rattle.std.proofs.Common.{◌∙◌, subst, map, inr, ◌||◌}
use Rattle.std.specs.List.{list_any}
use Rattle.std.proofs.lemmas.Bool.{or_parts, and_parts, not-true}
use Rattle.rc_names.specs.Numbers.{BlockId, InstructionId, EvaluationOrder}
use Rattle.rc_names.specs.declared.span.Span.{Span}
use Rattle.rc_hir.specs.Terminal.{evaluation_order}
use Rattle.rc_tree.specs.Model.{ReactiveInstruction}
use Rattle.rc_hir.specs.Model.{Place, GotoVariant, Instruction, BasicBlock, Terminal, Fault, HirFunction, Environment}
use Rattle.rc_hir.specs.declared.fault.Fault.TheVariants as faults
use Rattle.rc_hir.specs.declared.fault.Rule.TheVariants as rules
use Rattle.rc_hir.specs.declared.terminal.Terminal.TheVariants as terminals
use Rattle.rc_names.proofs.NumbersLemmas.{same_id-eq, ids_equivalence}
use Rattle.rc_runs.specs.Graph.{Block, basic_block, usable_block, rows_of}
use Rattle.rc_runs.specs.Silent.{is_unset}
use Rattle.rc_runs.specs.LastRow.{ends_value}
use Rattle.rc_runs.specs.PlainTree.{Value}
use Rattle.rc_runs.specs.ListContext.{ValueContext}
use Rattle.rc_runs.specs.ValueEnd.{ValueEnd}
use Rattle.rc_runs.specs.ValueGrammar.{Nested, SpellsValue, SpellsNested, named_test, last_block, last_throw}
use Rattle.rc_runs.specs.ValueGrammar.{may_throw as throws_on, value_row, sequence_value, ternary_value, logical_value}
use Rattle.rc_runs.specs.ValueGrammar.{optional_value}
use Rattle.rc_runs.proofs.GraphLemmas.{usable_block-at}
use Rattle.rc_runs.proofs.SetIds.{usable_block-set}
use Rattle.rc_build.specs.declared.builder.Marks.{Marks}
use Rattle.rc_build.specs.TerminalForms.{is_in_values, is_label}
use Rattle.rc_build.specs.BlockFacts.{BlockIs, IsValueReferenced}
use Rattle.rc_build.specs.RuleFacts.{FaultFact}
use Rattle.rc_build.specs.declared.value_ends.NamedPlace.{NamedPlace}
use Rattle.rc_build.specs.declared.values.TestArms.{TestArms}
use Rattle.rc_build.specs.inside.Throws.{may_throw}
use Rattle.rc_build.specs.inside.ValueKinds.{value_terminal}
use Rattle.rc_build.specs.inside.ValueRows.{HasRows, row_of}
use Rattle.rc_build.specs.inside.ValueEnds.{EndsValue, EndFault, SpellsNoValue, place_named}
use Rattle.rc_build.specs.inside.Values.{HasNoValue, any_end, arms_of, goes_to}
use Rattle.rc_build.proofs.BuiltLemmas.{refused_front}
use Rattle.rc_build.proofs.RowsLemmas.{first_row, both_rows}
use Rattle.rc_build.specs.inside.Marks.{IsUnusable}
use Rattle.rc_build.proofs.UsableLemmas.{filled, usable_ids, found_terminal}

-- the terminal is a `Goto` to the block
pub goes_to-goto : (terminal : Terminal) (next : BlockId) → goes_to terminal next ≡ true
    → (variant : GotoVariant) × (id : EvaluationOrder) × (span : Option Span)
    × (terminal ≡ terminals.Goto next variant id span)
goes_to-goto (terminals.Goto block variant id span) next same =
    (variant, id, span, ap (λ z. terminals.Goto z variant id span) (same_id-eq block next same))
goes_to-goto terminal next same = let bad : ⊥ = cc in absurd bad

pub goes_to-not : (terminal : Terminal) (next : BlockId) (variant : GotoVariant) (id : EvaluationOrder)
    (span : Option Span) → goes_to terminal next ≡ false → terminal ≡ terminals.Goto next variant id span → ⊥
goes_to-not terminal next variant id span other is =
    let same = ap (λ z. goes_to z next) is ∙ ids_equivalence.refl next in let bad : ⊥ = cc in bad

-- the arms are those of a `Branch`
pub arms_of-branch : (terminal : Terminal) (arms : TestArms) → arms_of terminal ≡ Some arms
    → (id : EvaluationOrder) × (terminal ≡ terminals.Branch arms.test arms.consequent arms.alternate id arms.span)
arms_of-branch (terminals.Branch test consequent alternate id span) arms e =
    let same : record { test = test; consequent = consequent; alternate = alternate; span = span } ≡ arms = cc in
    (id, ap (λ (z : TestArms). terminals.Branch z.test z.consequent z.alternate id z.span) same)
arms_of-branch terminal arms e = let bad : ⊥ = cc in absurd bad

pub arms_of-not : (terminal : Terminal) (place : Place) (first second : BlockId) (id : EvaluationOrder)
    (span : Option Span) → arms_of terminal ≡ None → terminal ≡ terminals.Branch place first second id span → ⊥
arms_of-not terminal place first second id span none is =
    let some = sym (ap arms_of is) ∙ none in let bad : ⊥ = cc in bad

-- a terminal that names a place is a `Branch`
pub place_named-branch : (terminal : Terminal) (named : NamedPlace) → place_named terminal ≡ Some named
    → (consequent : BlockId) × (alternate : BlockId) × (span : Option Span)
    × (terminal ≡ terminals.Branch named.place consequent alternate named.id span)
place_named-branch (terminals.Branch test consequent alternate id span) named e =
    let same : record { place = test; id = id } ≡ named = cc in (
      consequent,
      alternate,
      span,
      ap (λ (z : NamedPlace). terminals.Branch z.place consequent alternate z.id span) same,
    )
place_named-branch terminal named e = let bad : ⊥ = cc in absurd bad

-- a terminal that ends a value is no value terminal, and doesn't throw
pub ends_none : (terminal : Terminal) → ends_value terminal ≡ true → value_terminal terminal ≡ None
ends_none (terminals.Branch test consequent alternate id span) ends = refl
ends_none (terminals.Goto block variant id span) ends = refl
ends_none terminal ends = let bad : ⊥ = cc in absurd bad

pub ends_stays : (terminal : Terminal) → ends_value terminal ≡ true → may_throw terminal ≡ None
ends_stays (terminals.Branch test consequent alternate id span) ends = refl
ends_stays (terminals.Goto block variant id span) ends = refl
ends_stays terminal ends = let bad : ⊥ = cc in absurd bad

-- why a terminal doesn't end a value is a fact of its block
pub end_fact : (hir : HirFunction) (key : BlockId) (terminal : Terminal) (fault : Fault)
    → BlockIs hir key (λ block. block.terminal ≡ terminal) → IsValueReferenced hir key → EndFault key terminal fault
    → FaultFact hir fault
end_fact hir key terminal (faults.Malformed block rules.UnsetId) at referenced (same, unset) =
    subst (λ z. FaultFact hir (faults.Malformed z rules.UnsetId)) (sym same)
    (record {
      block = at.block;
      found = at.found;
      holds = inr (subst (λ z. is_unset (evaluation_order z) ≡ true) (sym at.holds) unset);
    })
end_fact hir key terminal (faults.Malformed block rules.NotValue) at referenced (same, other) =
    subst (λ z. FaultFact hir (faults.Malformed z rules.NotValue)) (sym same) (record {
      referenced = referenced;
      here = record { block = at.block; found = at.found; holds = ap is_in_values at.holds ∙ other };
    })
end_fact hir key terminal (faults.Todo block) at referenced (same, label) =
    subst (λ z. FaultFact hir (faults.Todo z)) (sym same) (record {
      referenced = referenced;
      here = record { block = at.block; found = at.found; holds = ap is_label at.holds ∙ label };
    })
end_fact hir key terminal fault at referenced fact = absurd fact

-- the rows of the first of these numbers
pub record Front (hir : HirFunction) (numbers : List InstructionId) : Type 0 where
  pub rows : List Instruction
  pub filled : rows_of hir.instructions numbers ≡ Some rows
  pub set : list_any (λ row. is_unset row.id) rows ≡ false

pub front_rows : (hir : HirFunction) (numbers more : List InstructionId) (rows : List Instruction)
    → rows_of hir.instructions (numbers ++ more) ≡ Some rows → list_any (λ row. is_unset row.id) rows ≡ false
    → Front hir numbers
front_rows hir [] more rows filled set = record { rows = []; filled = refl; set = refl }
front_rows hir (number ∷ numbers) more rows filled set =
    let first = first_row hir.instructions number (numbers ++ more) rows filled in
    let parts = or_parts (is_unset first.row.id) (list_any (λ (row : Instruction). is_unset row.id) first.rest)
    (subst (λ z. list_any (λ (row : Instruction). is_unset row.id) z ≡ false) first.whole set) in
    let later = front_rows hir numbers more first.rest first.later parts.1 in
    record {
      rows = first.row ∷ later.rows;
      filled = both_rows hir.instructions number numbers first.row later.rows first.first later.filled;
      set = ap (λ b. b || list_any (λ (row : Instruction). is_unset row.id) later.rows) parts.0 ∙ later.set;
    }

-- a block that may be used has the terminal of its basic block
pub same_terminal : (hir : HirFunction) (key : BlockId) (block : BasicBlock) → basic_block hir key ≡ Some block
    → (whole : Block) → usable_block hir key ≡ Some whole → whole.terminal ≡ block.terminal
same_terminal hir key block found whole usable =
    found_terminal hir key block whole found (usable_block-at hir key whole usable)

-- a block that doesn't throw doesn't end in a `MaybeThrow`
pub no_throw : (hir : HirFunction) (key : BlockId) (block : BasicBlock) → basic_block hir key ≡ Some block
    → may_throw block.terminal ≡ None → {whole : Block} {continuation : BlockId} {named : Option BlockId}
    {id : EvaluationOrder} {span : Option Span} → usable_block hir key ≡ Some whole
    → whole.terminal ≡ terminals.MaybeThrow continuation named id span → ⊥
no_throw hir key block found stays {whole} usable throws =
    let there = sym (ap may_throw throws) ∙ ap may_throw (same_terminal hir key block found whole usable) ∙ stays in
    let bad : ⊥ = cc in bad

-- the block of a spelled value
pub record AtBlock (hir : HirFunction) (key : BlockId) : Type 0 where
  pub whole : Block
  pub usable : usable_block hir key ≡ Some whole

module _ {hir : HirFunction} {env : Environment} where
  pub value_block : {key : BlockId} {context : ValueContext} {value : Value} {end : ValueEnd} {blocks : List BlockId}
      → SpellsValue hir env key context value end blocks → AtBlock hir key
  value_block (named_test {block = block} found empty branch) = record { whole = block; usable = found }
  value_block (last_block {block = block} rows row found ends whole) = record { whole = block; usable = found }
  value_block (last_throw {block = block} rows row found throws h whole behind only) =
      record { whole = block; usable = found }
  value_block (throws_on {block = block} found throws h further d w) = record { whole = block; usable = found }
  value_block (value_row {block = block} found d e s w g u) = record { whole = block; usable = found }

  -- a value uses its first block first
  pub value_starts : {key : BlockId} {context : ValueContext} {value : Value} {end : ValueEnd} {blocks : List BlockId}
      → SpellsValue hir env key context value end blocks → (rest : List BlockId) × (blocks ≡ key ∷ rest)
  value_starts (named_test found empty branch) = ([], refl)
  value_starts (last_block rows row found ends whole) = ([], refl)
  value_starts (last_throw {continuation = next} rows row found throws h whole behind only) = (next ∷ [], refl)
  value_starts (throws_on {used = later} found throws h further d w) = (later, refl)
  value_starts (value_row {nested_used = x} {value_used = y} {arm_used = z} found d e s w g u) = (x ++ (y ++ z), u)

  -- a value terminal is one
  pub nested_terminal : {handler : Option BlockId} {terminal : Terminal} {nested : Nested} {used : List BlockId}
      → SpellsNested hir env handler terminal nested used → value_terminal terminal ≡ None → ⊥
  nested_terminal (sequence_value d g) none = let bad : ⊥ = cc in bad
  nested_terminal (ternary_value t c d g e h u) none = let bad : ⊥ = cc in bad
  nested_terminal (logical_value t c d s e h u) none = let bad : ⊥ = cc in bad
  nested_terminal (optional_value t c a d g u) none = let bad : ⊥ = cc in bad

  pub spells_unusable : (key : BlockId) (marks : Marks) (context : ValueContext) (Q : ValueEnd → Type 0)
      → IsUnusable hir [] key marks → HasNoValue hir env key context Q marks.used
  spells_unusable key marks context Q none value end blocks d asked sound =
      let at = value_block d in
      let starts = value_starts d in
      none at.whole at.usable refl (refused_front hir marks.used (key ∷ []) starts.0 sound starts.1)

  module _ (key : BlockId) (block : BasicBlock) (found : basic_block hir key ≡ Some block) where
    module _ (last : value_terminal block.terminal ≡ None) (stays : may_throw block.terminal ≡ None) where
      pub no_row : {handler : Option BlockId} {whole : Block} {nested : Nested} {used : List BlockId}
          → usable_block hir key ≡ Some whole → SpellsNested hir env handler whole.terminal nested used → ⊥
      no_row {whole = whole} usable d = nested_terminal d (ap value_terminal (same_terminal hir key block found whole usable) ∙ last)

      -- the block of a value that ends neither in a value terminal nor in a `MaybeThrow` ends the value
      value_ends : {context : ValueContext} {value : Value} {end : ValueEnd} {blocks : List BlockId}
          → SpellsValue hir env key context value end blocks → ends_value block.terminal ≡ true
      value_ends (named_test {block = whole} usable empty branch) =
          subst (λ t. ends_value t ≡ true) (same_terminal hir key block found whole usable) (ap ends_value branch)
      value_ends (last_block {block = whole} rows row usable ends all) =
          subst (λ t. ends_value t ≡ true) (same_terminal hir key block found whole usable) ends
      value_ends (last_throw rows row usable throws h all behind only) = absurd (no_throw hir key block found stays usable throws)
      value_ends (throws_on usable throws h further d w) = absurd (no_throw hir key block found stays usable throws)
      value_ends (value_row usable d e s w g u) = absurd (no_row usable d)

      pub spells_unended : (EndsValue block.terminal → ⊥) → SpellsNoValue hir env key
      spells_unended unended context value end blocks d =
          let at = value_block d in
          unended (record {
            ends = value_ends d;
            set = subst (λ t. is_unset (evaluation_order t) ≡ false) (same_terminal hir key block found at.whole at.usable)
                (usable_block-set hir key at.whole at.usable).terminal;
          })

    -- the rows of a value's block, none of which has an unset id
    pub value_rows : {context : ValueContext} {value : Value} {end : ValueEnd} {blocks : List BlockId}
        → SpellsValue hir env key context value end blocks → Front hir block.instructions
    value_rows d =
        let at = value_block d in
        let ids = usable_ids hir key block at.whole found at.usable in record {
          rows = ids.rows;
          filled = ids.filled;
          set = not-true (list_any (λ (row : Instruction). is_unset row.id) ids.rows) (and_parts _ _ ids.set).0;
        }

-- no value is spelled from a block whose rows can't be made
pub no_value_of : {hir : HirFunction} {env : Environment} (key : BlockId) (block : BasicBlock)
    → basic_block hir key ≡ Some block → {context : ValueContext} {numbers : List InstructionId}
    → numbers ≡ block.instructions → ((made : List ReactiveInstruction) → HasRows hir numbers made → ⊥)
    → (used : List BlockId) → HasNoValue hir env key context any_end used
no_value_of {hir = hir} key block found same none used value end blocks d asked sound =
    let front = value_rows key block found d in
    none (map row_of front.rows) (subst (λ z. HasRows hir z (map row_of front.rows)) (sym same)
    (record { rows = front.rows; filled = front.filled; set = front.set; is = refl }))
