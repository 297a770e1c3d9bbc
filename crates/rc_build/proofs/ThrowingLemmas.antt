-- A block of a value that may throw, and after which the value goes on: when it is refused, and its row.
use Rattle.std.proofs.Common.{◌≡◌, true, false, List, [], ◌∷◌, Option, Some, None, refl, sym, ap, ◌∙◌, subst, arith}
use Rattle.std.proofs.Common.{not, ◌&&◌, Err}
use Rattle.rc_names.specs.Numbers.{BlockId, same_id, is_among}
use Rattle.rc_hir.specs.Terminal.{evaluation_order}
use Rattle.rc_hir.specs.Model.{BasicBlock, HirFunction, Environment, Fault}
use Rattle.rc_hir.specs.declared.fault.Fault.TheVariants as faults
use Rattle.rc_hir.specs.declared.fault.Rule.TheVariants as rules
use Rattle.rc_tree.specs.Model.{ReactiveInstruction}
use Rattle.rc_runs.specs.Graph.{Block, basic_block, block_at, has_all_ids, is_empty_goto, usable_block}
use Rattle.rc_runs.specs.LastRow.{ends_value}
use Rattle.rc_runs.specs.ListContext.{ValueContext, is_current}
use Rattle.rc_runs.specs.PlainTree.{Value}
use Rattle.rc_runs.specs.Silent.{is_unset}
use Rattle.rc_runs.specs.ValueEnd.{ValueEnd}
use Rattle.rc_runs.specs.ValueGrammar.{SpellsValue, named_test, last_block, last_throw, may_throw as throws_on}
use Rattle.rc_runs.specs.ValueGrammar.{value_row}
use Rattle.rc_build.specs.declared.builder.Builder.{Builder}
use Rattle.rc_build.specs.declared.builder.Marks.{Marks}
use Rattle.rc_build.specs.declared.builder.Site.{Site}
use Rattle.rc_build.specs.declared.handlers.MayThrow.{MayThrow}
use Rattle.rc_build.specs.References.{referenced_blocks, value_references}
use Rattle.rc_build.specs.BlockFacts.{BlockIs, IsValueReferenced}
use Rattle.rc_build.specs.inside.Built.{Builds}
use Rattle.rc_build.specs.inside.CanBuild.{CanBuildList}
use Rattle.rc_build.specs.inside.Marks.{CanMark, Marked, MarksBlocks}
use Rattle.rc_build.specs.inside.Task.{Progress}
use Rattle.rc_build.specs.inside.Throws.{may_throw}
use Rattle.rc_build.specs.inside.StepRows.{IsThrowing, RowBuilt}
use Rattle.rc_build.specs.inside.ValueRows.{HasRows}
use Rattle.rc_build.specs.inside.Values.{HasNoValue, any_end}
use Rattle.rc_build.proofs.BuildsLemmas.{breaks_rule}
use Rattle.rc_build.proofs.BuiltLemmas.{marking_drop}
use Rattle.rc_build.proofs.LoopKindLemmas.{among_first}
use Rattle.rc_build.proofs.MayThrowLemmas.{nested_stays, throws_as, throws_unended, handler_fact}
use Rattle.rc_build.proofs.UsableLemmas.{filled, usable_made}
use Rattle.rc_build.proofs.ValueLemmas.{same_terminal}
use Rattle.rc_build.proofs.ValueRowsLemmas.{instructions_of-rows_then}

-- the block that was found is the one of which that is known
pub block_throws : {hir : HirFunction} {key : BlockId} {throw : MayThrow} {block : BasicBlock}
    → basic_block hir key ≡ Some block → BlockIs hir key (λ block. may_throw block.terminal ≡ Some throw)
    → may_throw block.terminal ≡ Some throw
block_throws {block = block} found here =
    let same : here.block ≡ block = (let z = here.found in cc) in
    ap (λ (z : BasicBlock). may_throw z.terminal) (sym same) ∙ here.holds

module _ (hir : HirFunction) (key : BlockId) (block : BasicBlock) (found : basic_block hir key ≡ Some block)
    (throw : MayThrow) (throws : may_throw block.terminal ≡ Some throw) where
  ends_not : (whole : Block) → usable_block hir key ≡ Some whole → ends_value whole.terminal ≡ true → ⊥
  ends_not whole usable ends =
      let same = ap ends_value (same_terminal hir key block found whole usable) in
      let other = throws_unended block.terminal throw throws in
      let bad : ⊥ = cc in bad

  -- a value from a block that may throw names the current handler there, or none
  pub value_current : {env : Environment} {context : ValueContext} {value : Value} {end : ValueEnd} {blocks : List BlockId}
      → SpellsValue hir env key context value end blocks → is_current throw.handler context.handler ≡ true
  value_current (named_test {block = whole} usable empty branch) = absurd (ends_not whole usable (ap ends_value branch))
  value_current (last_block {block = whole} rows row usable ends all) = absurd (ends_not whole usable ends)
  value_current {context = context} (last_throw {continuation = continuation} {block = whole} {named = named} rows row
      usable ends current all behind only) =
      let alike = sym (ap may_throw ends) ∙ ap may_throw (same_terminal hir key block found whole usable) ∙ throws in
      let same : record { continuation = continuation; handler = named } ≡ throw = cc in
      ap (λ (z : MayThrow). is_current z.handler context.handler) (sym same) ∙ current
  value_current {context = context} (throws_on {continuation = continuation} {block = whole} {named = named} usable ends
      current further d w) =
      let alike = sym (ap may_throw ends) ∙ ap may_throw (same_terminal hir key block found whole usable) ∙ throws in
      let same : record { continuation = continuation; handler = named } ≡ throw = cc in
      ap (λ (z : MayThrow). is_current z.handler context.handler) (sym same) ∙ current
  value_current (value_row {block = whole} usable d e s w g u) =
      let alike = ap may_throw (same_terminal hir key block found whole usable) ∙ throws in
      let stays = nested_stays d in
      let bad : ⊥ = cc in absurd bad

  -- the ids of the block are set
  pub throwing_ids : (made : List ReactiveInstruction) (rows : HasRows hir block.instructions made)
      → is_unset (evaluation_order block.terminal) ≡ false → has_all_ids (filled block rows.rows) ≡ true
  throwing_ids made rows set = ap (λ b. not b && not (is_unset (evaluation_order block.terminal))) rows.set
      ∙ ap (λ b. true && not b) set

  -- it can be marked
  pub throwing_can_mark : {marks : Marks} (made : List ReactiveInstruction) → CanBuildList hir marks None [] key
      → HasRows hir block.instructions made → is_unset (evaluation_order block.terminal) ≡ false
      → CanMark hir marks key block
  throwing_can_mark made can rows set = record {
    can = can;
    found = found;
    ids = record { rows = rows.rows; filled = rows.filled; set = throwing_ids made rows set };
  }

  -- its continuation is pending then
  pub throwing_marking : {old new : Progress} → Marked hir key block.terminal old new
      → MarksBlocks hir (key ∷ []) (throw.continuation ∷ []) old.marks new.marks (key ∷ [])
  throwing_marking {old} {new} m = marking_drop hir (λ other. omega arith)
      (subst (λ t. MarksBlocks hir (key ∷ []) (referenced_blocks t) old.marks new.marks (key ∷ []))
      (throws_as block.terminal throw throws).2 m.marking)

  -- the block refers to its continuation as to a value
  pub throwing_valued : IsValueReferenced hir throw.continuation
  throwing_valued = (
    key,
    record {
      block = block;
      found = found;
      holds = ap (λ t. is_among (value_references t) throw.continuation) (throws_as block.terminal throw throws).2
          ∙ among_first throw.continuation [];
    },
  )

  -- the row of the block
  pub throwing_built : {handler : Option BlockId} {made : List ReactiveInstruction} {old new : Progress}
      → same_id block.id key ≡ true → HasRows hir block.instructions made
      → is_unset (evaluation_order block.terminal) ≡ false → is_current throw.handler handler ≡ true
      → is_empty_goto (block_at hir throw.continuation) ≡ false → Marked hir key block.terminal old new
      → RowBuilt hir (IsThrowing hir handler key) key (record {
        rows = made;
        next = throw.continuation;
        answer = None;
        short = None;
      }) old new
  throwing_built {made = made} own rows set current further m =
      let form = throws_as block.terminal throw throws in record {
        newly = key ∷ [];
        is = record {
          block = filled block rows.rows;
          named = throw.handler;
          id = form.0;
          span = form.1;
          usable = usable_made hir key block rows.rows found own rows.filled (throwing_ids made rows set);
          throws = form.2;
          current = current;
          goes_on = further;
          used_is = refl;
          rows = rows.is ∙ sym (instructions_of-rows_then rows.rows);
          answer = refl;
          short = refl;
          valued = throwing_valued;
        };
        marking = throwing_marking m;
        kept = m.kept;
      }

-- so one that names another handler is refused
pub other_handler : {A : Type 0} {old new : Builder} {site : Site} {Built : A → Type 0} {fault : Fault} {key : BlockId}
    {block : BasicBlock} {throw : MayThrow} {context : ValueContext} {handler : Option BlockId}
    → basic_block old.hir.now key ≡ Some block → BlockIs old.hir.now key (λ z. may_throw z.terminal ≡ Some throw)
    → context.handler ≡ handler → is_current throw.handler handler ≡ false → fault ≡ faults.Malformed key rules.Handler
    → Builds old new site Built (HasNoValue old.hir.now old.env.now key context any_end old.marks.used) (Err fault)
other_handler {old = old} {key = key} {block} {throw} {handler = handler} found here same other is =
    let throws = block_throws found here in
    breaks_rule key rules.Handler is
    (λ value end blocks d asked sound.
    let current = value_current old.hir.now key block found throw throws d in
    let not = ap (is_current throw.handler) same ∙ other in
    let bad : ⊥ = cc in bad)
    (handler_fact old.hir.now key block found throw handler throws other)
