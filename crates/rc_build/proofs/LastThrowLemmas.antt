-- A block that may throw before an empty last block: both are the last two of a value.
use Rattle.std.proofs.Common.{◌≡◌, Bool, true, false, List, [], ◌∷◌, ◌++◌, Some, None, refl, sym, ap, ◌∙◌, subst}
use Rattle.std.proofs.Common.{◌≤◌, arith, cond, not, ◌&&◌, map, length}
use Rattle.std.specs.List.{flat_map}
use Rattle.std.specs.Map.{lookup}
use Rattle.std.specs.Option.{option_to_list}
use Rattle.rc_names.specs.Numbers.{BlockId, InstructionId, is_among, same_id, times}
use Rattle.rc_hir.specs.Terminal.{evaluation_order}
use Rattle.rc_hir.specs.Model.{BasicBlock, Instruction, Terminal, HirFunction, Environment}
use Rattle.rc_hir.specs.declared.fault.Rule.TheVariants as rules
use Rattle.rc_hir.specs.declared.terminal.Terminal.TheVariants as terminals
use Rattle.rc_runs.specs.Graph.{Block, basic_block, block_at, has_all_ids, is_empty_goto, rows_of, usable_block}
use Rattle.rc_runs.specs.LastRow.{after_rows, ends_value, last_answer, last_value}
use Rattle.rc_runs.specs.ListContext.{ValueContext, is_current}
use Rattle.rc_runs.specs.PlainTree.{Value, Base}
use Rattle.rc_runs.specs.Silent.{is_unset}
use Rattle.rc_runs.specs.ValueEnd.{ValueEnd}
use Rattle.rc_runs.specs.ValueGrammar.{SpellsValue, named_test, last_block, last_throw, may_throw as throws_on}
use Rattle.rc_runs.specs.ValueGrammar.{value_row}
use Rattle.rc_runs.proofs.GraphLemmas.{usable_block-at}
use Rattle.rc_runs.proofs.OneValue.{not_empty}
use Rattle.rc_build.specs.declared.builder.Marks.{Marks}
use Rattle.rc_build.specs.declared.handlers.MayThrow.{MayThrow}
use Rattle.rc_build.specs.declared.values.BuiltValue.{BuiltValue}
use Rattle.rc_build.specs.References.{referenced_blocks}
use Rattle.rc_build.specs.TerminalForms.{is_goto}
use Rattle.rc_build.specs.BlockFacts.{IsEmptyGoto, ValueBlockIs, times_referenced}
use Rattle.rc_build.specs.RuleFacts.{OnlyGoesOn, RuleFact}
use Rattle.rc_build.specs.inside.CanBuild.{AreReferenced}
use Rattle.rc_build.specs.inside.Marks.{CanMark, IsUnusable, Marked}
use Rattle.rc_build.specs.inside.Task.{Progress}
use Rattle.rc_build.specs.inside.Throws.{may_throw}
use Rattle.rc_build.specs.inside.ValueRows.{row_of}
use Rattle.rc_build.specs.inside.ShortArms.{alternate_of}
use Rattle.rc_build.specs.inside.ValueEnds.{CanBuildLastThrow, IsValueOfRows}
use Rattle.rc_build.specs.inside.Values.{HasNoValue, ValueBuilt, any_end}
use Rattle.rc_build.proofs.BuiltLemmas.{marking_then, refused_back}
use Rattle.rc_build.proofs.LoopKindLemmas.{among_first}
use Rattle.rc_build.proofs.MarksLemmas.{times_among, times_append}
use Rattle.rc_build.proofs.MayThrowLemmas.{empty_there, goes_bare, nested_stays, throws_as, throws_unended}
use Rattle.rc_build.proofs.ThrowingLemmas.{block_throws, throwing_can_mark, throwing_marking, throwing_valued}
use Rattle.rc_build.proofs.UsableLemmas.{filled, found_block, usable_made}
use Rattle.rc_build.proofs.ValueLemmas.{same_terminal}
use Rattle.rc_build.proofs.ValueMadeLemmas.{not_open}
use Rattle.rc_build.proofs.WalkLemmas.{none_used}

-- the blocks to which a block of the graph refers are referred to
references_at : (k key : BlockId) (block : BasicBlock) (blocks : List (BlockId × BasicBlock))
    → lookup (same_id key) blocks ≡ Some block → times k (referenced_blocks block.terminal)
    ≤ times k (flat_map (λ pair. referenced_blocks pair.1.terminal) blocks)
references_at k key block [] e = let bad : ⊥ = cc in absurd bad
references_at k key block (pair ∷ blocks) e = go (same_id key pair.0) e (references_at k key block blocks)
  where
    go : (b : Bool) → cond b (Some pair.1) (lookup (same_id key) blocks) ≡ Some block
        → (lookup (same_id key) blocks ≡ Some block → times k (referenced_blocks block.terminal)
        ≤ times k (flat_map (λ pair. referenced_blocks pair.1.terminal) blocks))
        → times k (referenced_blocks block.terminal)
        ≤ times k (flat_map (λ pair. referenced_blocks pair.1.terminal) (pair ∷ blocks))
    go true h later =
        let same : pair.1 ≡ block = cc in
        omega (
          arith,
          ap (λ (z : BasicBlock). times k (referenced_blocks z.terminal)) same,
          times_append k (referenced_blocks pair.1.terminal) (flat_map (λ pair. referenced_blocks pair.1.terminal) blocks),
        )
    go false h later = omega (
      arith,
      later h,
      times_append k (referenced_blocks pair.1.terminal) (flat_map (λ pair. referenced_blocks pair.1.terminal) blocks),
    )

referenced_at : (hir : HirFunction) (key : BlockId) (block : BasicBlock) → basic_block hir key ≡ Some block
    → (k : BlockId) → is_among (referenced_blocks block.terminal) k ≡ true → 1 ≤ times_referenced hir k
referenced_at hir key block found k among = omega (
  arith,
  references_at k key block hir.body.blocks found,
  times_among k (referenced_blocks block.terminal) among,
)

-- the last two blocks of a value
pub record LastTwo (hir : HirFunction) (key continuation : BlockId) (blocks : List BlockId) : Type 0 where
  pub whole : Block
  pub behind : Block
  pub rows : List Instruction
  pub row : Instruction
  pub usable : usable_block hir key ≡ Some whole
  pub rows_are : whole.rows ≡ rows ++ row ∷ []
  pub usable_behind : usable_block hir continuation ≡ Some behind
  pub used : blocks ≡ key ∷ continuation ∷ []

module _ {hir : HirFunction} {marks : Marks} {key : BlockId} {throw : MayThrow}
    (can : CanBuildLastThrow hir marks key throw) {block : BasicBlock} (found : basic_block hir key ≡ Some block) where
  pub last_throws : may_throw block.terminal ≡ Some throw
  last_throws = block_throws found can.here

  ends_not : (whole : Block) → usable_block hir key ≡ Some whole → ends_value whole.terminal ≡ true → ⊥
  ends_not whole usable ends =
      let same = ap ends_value (same_terminal hir key block found whole usable) in
      let other = throws_unended block.terminal throw last_throws in
      let bad : ⊥ = cc in bad

  -- the last block is referred to
  pub last_referenced : 1 ≤ times_referenced hir throw.continuation
  last_referenced = referenced_at hir key block found throw.continuation
      (ap (λ t. is_among (referenced_blocks t) throw.continuation) (throws_as block.terminal throw last_throws).2
      ∙ among_first throw.continuation (option_to_list throw.handler ++ []))

  -- the first one can be marked
  pub first_can_mark : {env : Environment} {numbers : List InstructionId} {other : BlockId} {terminal : Terminal}
      {built : BuiltValue} → block.instructions ≡ numbers → IsValueOfRows hir env numbers other terminal built
      → is_unset (evaluation_order block.terminal) ≡ false → CanMark hir marks key block
  first_can_mark listed r set = throwing_can_mark hir key block found throw last_throws
      (map row_of (r.rows ++ r.row ∷ [])) can.can.can (record {
        rows = r.rows ++ r.row ∷ [];
        filled = ap (rows_of hir.instructions) listed ∙ r.filled;
        set = r.set;
        is = refl;
      }) set

  -- a value from there is of both blocks
  pub last_two : {env : Environment} {context : ValueContext} {value : Value} {end : ValueEnd} {blocks : List BlockId}
      → SpellsValue hir env key context value end blocks → LastTwo hir key throw.continuation blocks
  last_two (named_test {block = whole} usable empty branch) = absurd (ends_not whole usable (ap ends_value branch))
  last_two (last_block {block = whole} rows row usable ends all) = absurd (ends_not whole usable ends)
  last_two (last_throw {continuation = continuation} {block = whole} {behind = behind} {named = named} rows row usable ends
      current all there only) =
      let alike = sym (ap may_throw ends) ∙ ap may_throw (same_terminal hir key block found whole usable) ∙ last_throws in
      let same : record { continuation = continuation; handler = named } ≡ throw = cc in record {
        whole = whole;
        behind = behind;
        rows = rows;
        row = row;
        usable = usable;
        rows_are = all;
        usable_behind = ap (λ (z : MayThrow). usable_block hir z.continuation) (sym same) ∙ there;
        used = ap (λ (z : MayThrow). key ∷ z.continuation ∷ []) same;
      }
  last_two (throws_on {continuation = continuation} {block = whole} {named = named} usable ends current further d w) =
      let alike = sym (ap may_throw ends) ∙ ap may_throw (same_terminal hir key block found whole usable) ∙ last_throws in
      let same : record { continuation = continuation; handler = named } ≡ throw = cc in
      let empty = ap (λ (z : MayThrow). is_empty_goto (block_at hir z.continuation)) same ∙ can.goes in
      let bad : ⊥ = cc in absurd bad
  last_two (value_row {block = whole} usable d e s w g u) =
      let alike = ap may_throw (same_terminal hir key block found whole usable) ∙ last_throws in
      let stays = nested_stays d in
      let bad : ⊥ = cc in absurd bad

  module _ (env : Environment) (context : ValueContext) (used : List BlockId) where
    -- without the last block there is no value
    pub last_missing : usable_block hir throw.continuation ≡ None → HasNoValue hir env key context any_end used
    last_missing none value end blocks d asked sound =
        let two = last_two d in let there = two.usable_behind in let bad : ⊥ = cc in bad

    -- nor without a row
    pub last_empty : block.instructions ≡ [] → HasNoValue hir env key context any_end used
    last_empty none value end blocks d asked sound =
        let two = last_two d in
        let at = found_block hir key block [] found (ap (rows_of hir.instructions) none) in
        let same : two.whole ≡ filled block [] = (let z = usable_block-at hir key two.whole two.usable in cc) in
        not_empty two.rows two.row (ap (λ (z : Block). z.rows) (sym same) ∙ two.rows_are)

    -- nor where no tree may use the last block
    pub last_unusable : (mid : Marks) → mid.used ≡ used ++ key ∷ [] → IsUnusable hir [] throw.continuation mid
        → HasNoValue hir env key context any_end used
    last_unusable mid marked none value end blocks d asked sound =
        let two = last_two d in
        none two.behind two.usable_behind refl
        (refused_back hir used (key ∷ []) (throw.continuation ∷ []) sound two.used marked)

  -- the fact of a block without rows before an empty one
  pub last_empty_fact : block.instructions ≡ [] → RuleFact hir rules.EmptyValue key
  last_empty_fact none = record {
    referenced = can.can.referenced;
    here = record {
      block = block;
      found = found;
      holds = (
        none,
        subst (OnlyGoesOn hir) (sym (throws_as block.terminal throw last_throws).2)
            (empty_there hir throw.continuation can.goes),
      );
    };
  }

  module _ {behind : BasicBlock} (there : basic_block hir throw.continuation ≡ Some behind) where
    -- the last block has no rows, and ends in a `Goto`
    bare : IsEmptyGoto hir throw.continuation
    bare = empty_there hir throw.continuation can.goes

    same_behind : bare.block ≡ behind
    same_behind = let z = bare.found in cc

    bare_rows : rows_of hir.instructions behind.instructions ≡ Some []
    bare_rows = ap (rows_of hir.instructions) (ap (λ (z : BasicBlock). z.instructions) (sym same_behind) ∙ bare.holds.0)

    bare_goto : is_goto behind.terminal ≡ true
    bare_goto = ap (λ (z : BasicBlock). is_goto z.terminal) (sym same_behind) ∙ bare.holds.1

    bare_ids : is_unset (evaluation_order behind.terminal) ≡ false → has_all_ids (filled behind []) ≡ true
    bare_ids set = ap (λ b. true && not b) set

    module _ {old mid : Progress} (same : old.marks ≡ marks) (m : Marked hir key block.terminal old mid) where
      -- it can be marked after the first one
      pub last_can_mark : is_unset (evaluation_order behind.terminal) ≡ false
          → CanMark hir mid.marks throw.continuation behind
      last_can_mark set = record {
        can = record {
          marked = m.marking.marked;
          handled = tt;
          referenced = (throwing_marking hir key block found throw last_throws m).referenced []
              (subst (λ (z : Marks). AreReferenced hir z.used (key ∷ [])) (sym same) can.can.can.referenced);
          used_before = none_used mid.marks;
          owned = tt;
        };
        found = there;
        ids = record { rows = []; filled = bare_rows; set = bare_ids set };
      }

      -- the value of both
      pub last_throw_built : {env : Environment} {context : ValueContext} {numbers : List InstructionId}
          {built : BuiltValue} {new : Progress} → same_id block.id key ≡ true
          → is_unset (evaluation_order block.terminal) ≡ false → is_current throw.handler context.handler ≡ true
          → same_id behind.id throw.continuation ≡ true → is_unset (evaluation_order behind.terminal) ≡ false
          → block.instructions ≡ numbers → IsValueOfRows hir env numbers throw.continuation behind.terminal built
          → Marked hir throw.continuation behind.terminal mid new
          → ValueBuilt hir env key context any_end built old new
      last_throw_built {env} {built = built} own set current own_behind set_behind listed r n =
          let filled_here : rows_of hir.instructions block.instructions ≡ Some (r.rows ++ r.row ∷ []) =
          ap (rows_of hir.instructions) listed ∙ r.filled in
          let ids : has_all_ids (filled block (r.rows ++ r.row ∷ [])) ≡ true =
          ap (λ b. not b && not (is_unset (evaluation_order block.terminal))) r.set ∙ ap (λ b. true && not b) set in
          record {
            value = after_rows r.rows r.row.id (Base (last_value env r.row.value));
            end = record {
              answer = last_answer env r.row.lvalue r.row.value;
              id = r.row.id;
              last = behind.terminal;
              left_open = None;
            };
            newly = key ∷ throw.continuation ∷ [];
            is = record {
              is = r.is;
              answer = r.answer;
              id = r.id;
              last = r.last;
              left = ap alternate_of r.left;
              at_end = subst (λ z. ValueBlockIs hir z (λ block. block.terminal ≡ behind.terminal)) (sym r.block) (record {
                referenced = throwing_valued hir key block found throw last_throws;
                here = record { block = behind; found = there; holds = refl };
              });
              short = not_open hir built.left_open r.left;
            };
            spelled = last_throw {behind = filled behind []} r.rows r.row
                (usable_made hir key block (r.rows ++ r.row ∷ []) found own filled_here ids)
                (throws_as block.terminal throw last_throws).2 current refl
                (usable_made hir throw.continuation behind [] there own_behind bare_rows (bare_ids set_behind))
                (goes_bare behind.terminal ∙ bare_goto);
            ends = tt;
            marking = marking_then hir (throwing_marking hir key block found throw last_throws m) n.marking;
            kept = n.kept ∙ m.kept;
          }

-- no number is listed
pub none_listed : (numbers : List InstructionId) → length numbers ≡ 0 → numbers ≡ []
none_listed [] e = refl
none_listed (number ∷ numbers) e = let bad : ⊥ = omega (arith, e) in absurd bad
