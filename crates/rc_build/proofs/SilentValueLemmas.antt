-- A value that is a silent arm besides: its blocks are silent, and none of them ends in a value terminal.
use Rattle.std.proofs.Common.{◌≡◌, ◌≤◌, ◌<◌, ℕ, zero, suc, true, false, List, [], ◌∷◌, ◌++◌, Option, Some, None, refl}
use Rattle.std.proofs.Common.{sym, ap, ◌∙◌, subst, arith, drop, length}
use Rattle.std.specs.Prelude.{slice_get, is_some}
use Rattle.std.proofs.lemmas.Bool.{or_left, or_right}
use Rattle.rc_names.proofs.NumbersLemmas.{ids_equivalence}
use Rattle.rc_build.specs.declared.value_terminals.ValueTerminal.{ValueTerminal}
use Rattle.rc_names.specs.Numbers.{BlockId, EvaluationOrder, is_among, same_id}
use Rattle.rc_names.specs.declared.span.Span.{Span}
use Rattle.rc_hir.specs.Terminal.{evaluation_order}
use Rattle.rc_hir.specs.Model.{Place, Instruction, BasicBlock, Terminal, HirFunction, Environment}
use Rattle.rc_hir.specs.declared.terminal.Terminal.TheVariants as terminals
use Rattle.rc_runs.specs.Graph.{Block, basic_block, only_goes, usable_block}
use Rattle.rc_runs.specs.LastRow.{ends_value}
use Rattle.rc_runs.specs.ListContext.{ValueContext, is_current}
use Rattle.rc_runs.specs.PlainTree.{Value}
use Rattle.rc_runs.specs.ValueEnd.{ValueEnd, GoesTo}
use Rattle.rc_runs.specs.ShortArms.{SpellsSilentArm, are_silent, silent_block, silent_chain}
use Rattle.rc_runs.specs.ValueGrammar.{SpellsValue, named_test, last_block, last_throw, may_throw as throws_on}
use Rattle.rc_runs.specs.ValueGrammar.{value_row}
use Rattle.rc_runs.proofs.GraphLemmas.{one_continuation, one_held, one_kind}
use Rattle.rc_runs.proofs.OneValue.{nested_ends_no_value}
use Rattle.rc_runs.specs.Silent.{is_unset}
use Rattle.rc_build.specs.inside.SilentArms.{AreArmBlocks, HasSilentRows, IsArmBlock}
use Rattle.rc_build.specs.inside.Throws.{may_throw}
use Rattle.rc_build.specs.inside.ValueKinds.{value_terminal}
use Rattle.rc_build.proofs.SilentArmLemmas.{silent_rows, silent_usable}
use Rattle.rc_build.proofs.MayThrowLemmas.{nested_stays}
use Rattle.rc_build.proofs.UsableLemmas.{filled}
use Rattle.rc_build.proofs.ValueLemmas.{nested_terminal, same_terminal}

-- a block is silent under its key
silent_at : {hir : HirFunction} {env : Environment} {key : BlockId} {block : Block} → IsArmBlock hir env key
    → usable_block hir key ≡ Some block → are_silent env block.rows ≡ true
silent_at {env = env} is found = ap (λ (b : Block). are_silent env b.rows) (one_held is.usable found) ∙ is.silent

current_at : (named : Option BlockId) {other handler : Option BlockId} → other ≡ handler → is_current named other ≡ true
    → is_current named handler ≡ true
current_at named same current = ap (is_current named) (sym same) ∙ current

module _ {hir : HirFunction} {env : Environment} {handler : Option BlockId} {next : BlockId} where
  -- the blocks of a silent arm are silent
  pub arm_silent : {key : BlockId} {used : List BlockId} → SpellsSilentArm hir env handler next key used
      → AreArmBlocks hir env used
  arm_silent (silent_block {block = block} found silent goes) =
      (record { block = block; usable = found; silent = silent; plain = ap value_terminal goes }, tt)
  arm_silent (silent_chain {block = block} found silent throws current d) =
      (record { block = block; usable = found; silent = silent; plain = ap value_terminal throws }, arm_silent d)

  -- a value whose blocks are silent is a silent arm, where it goes to the next block
  pub silent_arm : {key : BlockId} {context : ValueContext} {value : Value} {end : ValueEnd} {blocks : List BlockId}
      → context.handler ≡ handler → SpellsValue hir env key context value end blocks → GoesTo next end
      → AreArmBlocks hir env blocks → SpellsSilentArm hir env handler next key blocks
  silent_arm same (named_test found empty branch) goes silent =
      let not = sym branch ∙ goes.goes in let bad : ⊥ = cc in absurd bad
  silent_arm same (last_block rows row found ends whole) goes silent =
      silent_block found (silent_at silent.0 found) goes.goes
  silent_arm {key = key} same (last_throw {continuation = continuation} {named = named} rows row found throws current whole
      behind only) goes silent =
      silent_chain found (silent_at silent.0 found) throws (current_at named same current)
      (silent_block behind (silent_at silent.1.0 behind) goes.goes)
  silent_arm {key = key} same (throws_on {named = named} found throws current further d w) goes silent =
      silent_chain found (silent_at silent.0 found) throws (current_at named same current)
      (silent_arm same d goes silent.1)
  silent_arm same (value_row {block = block} found d e s w g u) goes silent =
      let is = (subst (AreArmBlocks hir env) u silent).0 in
      absurd (nested_terminal d (ap (λ (b : Block). value_terminal b.terminal) (one_held is.usable found) ∙ is.plain))

-- a block that may throw doesn't only go on
only_throws : (rows : List Instruction) (terminal : Terminal) {continuation : BlockId} {named : Option BlockId}
    {id : EvaluationOrder} {span : Option Span} → terminal ≡ terminals.MaybeThrow continuation named id span
    → only_goes rows terminal ≡ false
only_throws [] terminal throws = ap (only_goes []) throws
only_throws (row ∷ rows) terminal throws = ap (only_goes (row ∷ rows)) throws

module _ {hir : HirFunction} {env : Environment} where
  -- a block that only goes on, in a silent arm, goes on at the next block
  only_goes_to : {handler : Option BlockId} {key next : BlockId} {block : Block} {answer : Place} {number : EvaluationOrder}
      {used : List BlockId} → usable_block hir key ≡ Some block → only_goes block.rows block.terminal ≡ true
      → SpellsSilentArm hir env handler next key used
      → GoesTo next (record { answer = answer; id = number; last = block.terminal; left_open = None })
  only_goes_to found only (silent_block {variant = v} {id = i} {span = p} found' silent goes) =
      record { variant = v; id = i; span = p; goes = ap (λ (z : Block). z.terminal) (one_held found' found) ∙ goes }
  only_goes_to {block = block} found only (silent_chain found' silent throws current arm) =
      let same = ap (λ (z : Block). z.terminal) (one_held found' found) ∙ throws in
      let not = only_throws block.rows block.terminal same in
      let bad : ⊥ = cc in absurd bad

  -- a value from a silent arm goes on at the next block
  pub silent_goes : {handler : Option BlockId} {key next : BlockId} {context : ValueContext} {value : Value}
      {end : ValueEnd} {used blocks : List BlockId} → SpellsSilentArm hir env handler next key used
      → SpellsValue hir env key context value end blocks → GoesTo next end
  silent_goes (silent_block {block = block} found silent goes) (named_test {block = other} found' empty branch) =
      let goto = sym branch ∙ ap (λ (z : Block). z.terminal) (one_held found found') ∙ goes in
      let bad : ⊥ = cc in absurd bad
  silent_goes (silent_block {block = block} {variant = v} {id = i} {span = p} found silent goes)
      (last_block {block = other} rows row found' ends whole) =
      record { variant = v; id = i; span = p; goes = ap (λ (z : Block). z.terminal) (one_held found found') ∙ goes }
  silent_goes {key = key} (silent_block found silent goes) (last_throw rows row found' throws current whole behind only) =
      absurd (one_kind hir ends_value key found' (ap ends_value throws) found (ap ends_value goes))
  silent_goes {key = key} (silent_block found silent goes) (throws_on found' throws current further d w) =
      absurd (one_kind hir ends_value key found' (ap ends_value throws) found (ap ends_value goes))
  silent_goes {key = key} (silent_block found silent goes) (value_row found' d e s w g u) =
      absurd (one_kind hir ends_value key found' (nested_ends_no_value d) found (ap ends_value goes))
  silent_goes {key = key} (silent_chain found silent throws current arm) (named_test found' empty branch) =
      absurd (one_kind hir ends_value key found (ap ends_value throws) found' (ap ends_value branch))
  silent_goes {key = key} (silent_chain found silent throws current arm) (last_block rows row found' ends whole) =
      absurd (one_kind hir ends_value key found (ap ends_value throws) found' ends)
  silent_goes {handler} {key = key} {next} (silent_chain {used = later} found silent throws current arm)
      (last_throw rows row found' throws' current' whole behind only) =
      only_goes_to behind only (subst (λ z. SpellsSilentArm hir env handler next z later)
      (one_continuation hir key found' throws' found throws) arm)
  silent_goes {handler} {key = key} {next} (silent_chain {used = later} found silent throws current arm)
      (throws_on found' throws' current' further d w) =
      silent_goes (subst (λ z. SpellsSilentArm hir env handler next z later)
      (one_continuation hir key found' throws' found throws) arm) d
  silent_goes (silent_chain found silent throws current arm) (value_row found' d e s w g u) =
      let same = sym (ap may_throw throws) ∙ ap (λ (z : Block). may_throw z.terminal) (one_held found' found) in
      let stays = nested_stays d in
      let bad : ⊥ = cc in absurd bad

module _ {hir : HirFunction} {env : Environment} {key : BlockId} {block : BasicBlock}
    (found : basic_block hir key ≡ Some block) where
  -- a block of a value that was looked at
  pub arm_block_made : same_id block.id key ≡ true → HasSilentRows hir env block.instructions
      → is_unset (evaluation_order block.terminal) ≡ false → value_terminal block.terminal ≡ None
      → IsArmBlock hir env key
  arm_block_made own h set plain = record {
    block = filled block h.rows;
    usable = silent_usable key block found own h set;
    silent = h.silent;
    plain = plain;
  }

  -- what such a block has
  pub arm_block_rows : IsArmBlock hir env key → HasSilentRows hir env block.instructions
  arm_block_rows is = silent_rows key found is.block is.usable is.silent

  pub arm_block_plain : IsArmBlock hir env key → value_terminal block.terminal ≡ None
  arm_block_plain is = ap value_terminal (sym (same_terminal hir key block found is.block is.usable)) ∙ is.plain

module _ (hir : HirFunction) (env : Environment) where
  -- the blocks from a place on, once each was looked at
  pub all_checked : (before : ℕ) (used : List BlockId)
      → ((i : ℕ) (key : BlockId) → before ≤ i → i < length used → slice_get used i ≡ Some key → IsArmBlock hir env key)
      → AreArmBlocks hir env (drop before used)
  all_checked zero [] checked = tt
  all_checked (suc before) [] checked = tt
  all_checked zero (key ∷ used) checked = (
    checked 0 key (omega arith) (omega arith) refl,
    all_checked zero used (λ i other from below at. checked (suc i) other (omega arith) (omega (arith, below)) at),
  )
  all_checked (suc before) (key ∷ used) checked =
      all_checked before used (λ i other from below at. checked (suc i) other (omega (arith, from)) (omega (arith, below)) at)

  -- a block from the place on is one of them
  pub checked_at : (before : ℕ) (used : List BlockId) → AreArmBlocks hir env (drop before used) → (i : ℕ)
      (key : BlockId) → before ≤ i → slice_get used i ≡ Some key → IsArmBlock hir env key
  checked_at before [] all i key from at = let bad : ⊥ = cc in absurd bad
  checked_at zero (first ∷ used) all zero key from at =
      subst (IsArmBlock hir env) (let same : first ≡ key = cc in same) all.0
  checked_at zero (first ∷ used) all (suc i) key from at = checked_at zero used all.1 i key (omega arith) at
  checked_at (suc before) (first ∷ used) all zero key from at = absurd (omega (arith, from))
  checked_at (suc before) (first ∷ used) all (suc i) key from at =
      checked_at before used all i key (omega (arith, from)) at

drop-front : (front back : List BlockId) → drop (length front) (front ++ back) ≡ back
drop-front [] back = refl
drop-front (key ∷ front) back = drop-front front back

-- the blocks that were marked since then
pub blocks_since : (old newly : List BlockId) {before : ℕ} {new : List BlockId} → before ≡ length old → new ≡ old ++ newly
    → drop before new ≡ newly
blocks_since old newly {before} {new} is used =
    ap (λ z. drop z new) is ∙ ap (drop (length old)) used ∙ drop-front old newly

-- a block at a place is among the blocks
pub among_at : (used : List BlockId) (i : ℕ) (key : BlockId) → slice_get used i ≡ Some key → is_among used key ≡ true
among_at [] i key at = let bad : ⊥ = cc in absurd bad
among_at (first ∷ used) zero key at = or_left (same_id key first) (is_among used key)
    (let same : first ≡ key = cc in ap (same_id key) same ∙ ids_equivalence.refl key)
among_at (first ∷ used) (suc i) key at = or_right (same_id key first) (is_among used key) (among_at used i key at)

-- there is no value terminal
pub no_value_terminal : (found : Option ValueTerminal) → is_some found ≡ false → found ≡ None
no_value_terminal None e = refl
no_value_terminal (Some found) e = let bad : ⊥ = cc in absurd bad
