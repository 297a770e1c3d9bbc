-- A value terminal as a row of a value: its block, its parts, and why it is refused.
use Rattle.std.proofs.Common.{◌≡◌, Bool, true, false, List, [], ◌∷◌, ◌++◌, Option, Some, refl, sym, ap, ◌∙◌, subst, inr}
use Rattle.std.proofs.Common.{map, not, ◌&&◌}
use Rattle.std.proofs.lemmas.List.{append-nil}
use Rattle.rc_names.specs.Numbers.{BlockId, EvaluationOrder, same_id, is_among}
use Rattle.rc_names.specs.declared.span.Span.{Span}
use Rattle.rc_hir.specs.Terminal.{evaluation_order}
use Rattle.rc_hir.specs.Model.{Place, BasicBlock, Instruction, HirFunction, Environment}
use Rattle.rc_hir.specs.declared.fault.Rule.TheVariants as rules
use Rattle.rc_hir.specs.declared.terminal.Terminal.TheVariants as terminals
use Rattle.rc_tree.specs.Model.{ReactiveInstruction, ReactiveValue}
use Rattle.rc_runs.specs.Graph.{Block, basic_block, has_all_ids, usable_block}
use Rattle.rc_runs.specs.LastRow.{ends_value, rows_then}
use Rattle.rc_runs.specs.PlainTree.{Rows, NoRows, Row}
use Rattle.rc_runs.specs.Silent.{is_unset}
use Rattle.rc_runs.specs.TreeOf.{instructions_of}
use Rattle.rc_runs.specs.ValueGrammar.{SpellsNested, named_test, last_block, last_throw, may_throw as throws_on}
use Rattle.rc_runs.specs.ValueGrammar.{value_row}
use Rattle.rc_runs.proofs.SetIds.{usable_block-set}
use Rattle.rc_build.specs.declared.builder.Marks.{Marks}
use Rattle.rc_build.specs.declared.values.Around.{Around}
use Rattle.rc_build.specs.declared.value_terminals.NestedValue.{NestedValue}
use Rattle.rc_build.specs.declared.value_terminals.ValueTerminal.{ValueTerminal}
use Rattle.rc_build.specs.References.{referenced_blocks, value_references}
use Rattle.rc_build.specs.RuleFacts.{RuleFact}
use Rattle.rc_build.specs.inside.Built.{Refused}
use Rattle.rc_build.specs.inside.CanBuild.{AreReferenced}
use Rattle.rc_build.specs.inside.Marks.{CanMark, Marked, MarksBlocks}
use Rattle.rc_build.specs.inside.Task.{Progress}
use Rattle.rc_build.specs.inside.Throws.{may_throw}
use Rattle.rc_build.specs.inside.ValueKinds.{terminal_of}
use Rattle.rc_build.specs.inside.ValueSteps.{value_at}
use Rattle.rc_build.specs.inside.ShortArms.{arm_blocks}
use Rattle.rc_build.specs.inside.StepRows.{CanBuildRow, IsRow, RowBuilt}
use Rattle.rc_build.specs.inside.ValueLoops.{row_behind}
use Rattle.rc_build.specs.inside.ValueTerminals.{CanBuildNested, NestedBuilt}
use Rattle.rc_build.specs.inside.ValueRows.{HasRows, row_of}
use Rattle.rc_build.specs.inside.Values.{HasNoValue, any_end}
use Rattle.rc_build.proofs.BuiltLemmas.{marking_then, refused_back, refused_front}
use Rattle.rc_build.proofs.LoopKindLemmas.{among_first}
use Rattle.rc_build.proofs.MarksLemmas.{among_back}
use Rattle.rc_build.proofs.UsableLemmas.{filled, usable_made}
use Rattle.rc_build.proofs.ValueKindLemmas.{begins_at, value_facts}
use Rattle.rc_build.proofs.ValueLemmas.{same_terminal, value_block}
use Rattle.rc_build.proofs.ValueStatementLemmas.{same_ends}

-- rows, and one more
instructions_of-then : (rows : List Instruction) (more : Rows)
    → instructions_of (rows_then rows more) ≡ map row_of rows ++ instructions_of more
instructions_of-then [] more = refl
instructions_of-then (row ∷ rows) more = ap (λ z. row_of row ∷ z) (instructions_of-then rows more)

module _ {hir : HirFunction} {marks : Marks} (key : BlockId) (terminal : ValueTerminal) (block : BasicBlock)
    (found : basic_block hir key ≡ Some block) (can : CanBuildRow hir marks key terminal) where
  -- the block that was found ends in the value terminal
  pub row_terminal : block.terminal ≡ terminal_of terminal
  row_terminal =
      let same : can.here.block ≡ block = (let z = can.here.found in cc) in
      ap (λ (z : BasicBlock). z.terminal) (sym same) ∙ can.here.holds

  order : evaluation_order block.terminal ≡ terminal.id
  order = ap evaluation_order row_terminal ∙ (value_facts terminal).order

  -- a terminal without an id is a fact of its block, and refuses the value
  pub row_unset : is_unset terminal.id ≡ true → RuleFact hir rules.UnsetId key
  row_unset unset = record { block = block; found = found; holds = inr (ap is_unset order ∙ unset) }

  pub row_unset_refused : (env : Environment) (around : Around) (is_test : Bool) → is_unset terminal.id ≡ true
      → HasNoValue hir env key (value_at around is_test) any_end marks.used
  row_unset_refused env around is_test unset value end blocks d asked sound =
      let at = value_block d in
      let set = (usable_block-set hir key at.whole at.usable).terminal in
      let no = ap is_unset (ap evaluation_order (same_terminal hir key block found at.whole at.usable) ∙ order) ∙ unset in
      let bad : ⊥ = cc in bad

  -- the block can be marked
  pub row_can_mark : (made : List ReactiveInstruction) → HasRows hir block.instructions made
      → is_unset terminal.id ≡ false → CanMark hir marks key block
  row_can_mark made rows set = record {
    can = can.can.can;
    found = found;
    ids = record {
      rows = rows.rows;
      filled = rows.filled;
      set = ap (λ b. not b && not (is_unset (evaluation_order block.terminal))) rows.set
          ∙ ap (λ b. true && not b) (ap is_unset order ∙ set);
    };
  }

  ends_not : (whole : Block) → usable_block hir key ≡ Some whole → ends_value whole.terminal ≡ true → ⊥
  ends_not whole usable ends =
      let same = same_terminal hir key block found whole usable ∙ row_terminal in
      let no = ap ends_value same ∙ (value_facts terminal).ends in
      let bad : ⊥ = cc in bad

  throws_not : (whole : Block) → usable_block hir key ≡ Some whole → {continuation : BlockId} {named : Option BlockId}
      {order : EvaluationOrder} {span : Option Span} → whole.terminal ≡ terminals.MaybeThrow continuation named order span → ⊥
  throws_not whole usable throws =
      let same = sym (ap may_throw throws) ∙ ap may_throw (same_terminal hir key block found whole usable ∙ row_terminal)
      ∙ (value_facts terminal).stays in
      let bad : ⊥ = cc in bad

  module _ {old new : Progress} (same : old.marks ≡ marks) (m : Marked hir key block.terminal old new) where
    -- then its value terminal can be built
    pub row_nested_can : CanBuildNested hir new.marks terminal
    row_nested_can = record {
      marked = m.marking.marked;
      referenced = subst (λ z. AreReferenced hir new.marks.used z)
          (append-nil (referenced_blocks block.terminal) ∙ ap referenced_blocks row_terminal)
          (m.marking.referenced [] (subst (λ (z : Marks). AreReferenced hir z.used (key ∷ [])) (sym same)
          can.can.can.referenced));
      owner = key;
      here = can.here;
    }

    -- where that is refused, the value is
    pub row_refused : (env : Environment) (around : Around) (is_test : Bool)
        → Refused hir (SpellsNested hir env around.handler (terminal_of terminal)) new.marks.used
        → HasNoValue hir env key (value_at around is_test) any_end old.marks.used
    row_refused env around is_test none value end blocks (named_test {block = whole} usable empty branch) asked sound =
        absurd (ends_not whole usable (ap ends_value branch))
    row_refused env around is_test none value end blocks (last_block {block = whole} rows row usable ends all) asked sound =
        absurd (ends_not whole usable ends)
    row_refused env around is_test none value end blocks (last_throw {block = whole} rows row usable throws current all
        behind only) asked sound = absurd (throws_not whole usable throws)
    row_refused env around is_test none value end blocks (throws_on {block = whole} usable throws current further d w)
        asked sound = absurd (throws_not whole usable throws)
    row_refused env around is_test none value end blocks (value_row {block = whole} {nested = n} {nested_used = x}
        {value_used = y} {arm_used = z} usable d e s w g u) asked sound =
        let at = same_terminal hir key block found whole usable ∙ row_terminal in
        none n x (subst (λ t. SpellsNested hir env around.handler t n x) at d)
        (refused_front hir new.marks.used x (y ++ z)
        (refused_back hir old.marks.used (key ∷ []) (x ++ (y ++ z)) sound u m.marking.used) refl)

    -- the row of a value terminal whose parts are built
    pub row_built : {env : Environment} {around : Around} {made : List ReactiveInstruction} {nested : NestedValue}
        {late : Progress} → same_id block.id key ≡ true → HasRows hir block.instructions made
        → is_unset terminal.id ≡ false → NestedBuilt hir env around.handler terminal nested new late
        → RowBuilt hir (IsRow hir env around key) key (row_behind made terminal around.span nested) old late
    row_built {env} {around} {made} {nested} {late} own rows set b =
        let all : has_all_ids (filled block rows.rows) ≡ true =
        ap (λ b. not b && not (is_unset (evaluation_order block.terminal))) rows.set
        ∙ ap (λ b. true && not b) (ap is_unset order ∙ set) in
        let ends = same_ends terminal.kind terminal.fallthrough terminal.id terminal.span b.spelled in record {
          newly = key ∷ b.newly;
          is = record {
            block = filled block rows.rows;
            nested = b.nested;
            nested_used = b.newly;
            usable = usable_made hir key block rows.rows found own rows.filled all;
            spelled = subst (λ t. SpellsNested hir env around.handler t b.nested b.newly) (sym row_terminal) b.spelled;
            used_is = refl;
            rows = ap (λ z. z ++ row terminal.id nested.answer nested.value ∷ []) rows.is
                ∙ ap (λ z. map row_of rows.rows ++ row z nested.answer nested.value ∷ []) (sym ends.id)
                ∙ ap (λ z. map row_of rows.rows ++ row b.nested.id z nested.value ∷ []) b.is.answer
                ∙ ap (λ z. map row_of rows.rows ++ row b.nested.id b.nested.answer z ∷ []) b.is.is
                ∙ sym (instructions_of-then rows.rows
                (Row b.nested.id (Some b.nested.answer) b.nested.value around.span NoRows));
            next = sym ends.falls;
            answer = ap Some b.is.answer;
            left = b.is.left;
            short = b.is.short;
            valued = (
              key,
              record {
                block = block;
                found = found;
                holds = ap (λ t. is_among (value_references t) terminal.fallthrough) row_terminal
                    ∙ ap (λ z. is_among z terminal.fallthrough) (value_facts terminal).valued
                    ∙ among_back (begins_at terminal.kind ∷ []) (terminal.fallthrough ∷ []) terminal.fallthrough
                    (among_first terminal.fallthrough []);
              },
            );
          };
          marking = marking_then hir m.marking (subst (λ z. MarksBlocks hir z
              (terminal.fallthrough ∷ arm_blocks nested.short) new.marks late.marks b.newly)
              (ap referenced_blocks (sym row_terminal)) b.marking);
          kept = b.kept ∙ m.kept;
        }
      where
        row : EvaluationOrder → Place → ReactiveValue → ReactiveInstruction
        row id answer value = record { id = id; lvalue = Some answer; value = value; span = around.span }
