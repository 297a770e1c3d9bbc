-- No used block leads to one that ends in `Unreachable`: what that says of a part's blocks, and of a loop's.
use Rattle.std.proofs.Common.{◌≡◌, Bool, false, List, [], ◌∷◌, ◌++◌, Option, Some, refl, sym, subst, arith}
use Rattle.std.proofs.Common.{Contains}
use Rattle.std.proofs.lemmas.List.Elements.{Contains-append_left, Contains-append_right}
use Rattle.rc_names.specs.Numbers.{BlockId}
use Rattle.rc_hir.specs.Model.{Terminal, HirFunction, Environment}
use Rattle.rc_runs.specs.Graph.{Block, block_at, ends_unreachable}
use Rattle.rc_runs.specs.GraphRun.{then_arm, else_arm, goes_to, HasNoUnreachableSuccessor}
use Rattle.rc_runs.specs.PlainTree.{Value}
use Rattle.rc_runs.specs.ListContext.{ValueContext}
use Rattle.rc_runs.specs.ValueEnd.{ValueEnd, GoesTo}
use Rattle.rc_runs.specs.LoopValues.{SpellsTest}
use Rattle.rc_runs.specs.ValueGrammar.{Nested, SpellsValue, named_test, last_block, last_throw, may_throw, value_row}
use Rattle.rc_runs.specs.ValueGrammar.{SpellsNested, sequence_value, ternary_value, logical_value, optional_value}
use Rattle.rc_runs.proofs.GraphLemmas.{usable_block-at}
use Rattle.rc_runs.proofs.SuccessorsLemmas.{fails_there}

module _ (hir : HirFunction) where
  -- none of these blocks leads to one that ends in `Unreachable`
  abbrev pub AllAlive : List BlockId → Type 0
  AllAlive used = (key : BlockId) → Contains used key → (block : Block) → block_at hir key ≡ Some block
      → HasNoUnreachableSuccessor hir block.terminal

  pub alive_front : {used : List BlockId} (front behind : List BlockId) → used ≡ front ++ behind → AllAlive used
      → AllAlive front
  alive_front front behind e alive =
      λ key c. alive key (subst (λ u. Contains u key) (sym e) (Contains-append_left front behind key c))

  pub alive_behind : {used : List BlockId} (front behind : List BlockId) → used ≡ front ++ behind → AllAlive used
      → AllAlive behind
  alive_behind front behind e alive =
      λ key c. alive key (subst (λ u. Contains u key) (sym e) (Contains-append_right front behind key c))

  -- the blocks of a value terminal's row, of the value after it, and of its short arm
  pub row_alive : {key : BlockId} {used : List BlockId} (row value arm : List BlockId)
      → used ≡ key ∷ (row ++ (value ++ arm)) → AllAlive used → AllAlive row × AllAlive value × AllAlive arm
  row_alive {key} row value arm e alive =
      let parts = alive_behind (key ∷ []) (row ++ (value ++ arm)) e alive in
      let behind = alive_behind row (value ++ arm) refl parts in
      (alive_front row (value ++ arm) refl parts, alive_front value arm refl behind, alive_behind value arm refl behind)

  -- the last block of a value is used
  pub value_alive : {env : Environment} {key : BlockId} {context : ValueContext} {value : Value} {end : ValueEnd}
      {used : List BlockId} → SpellsValue hir env key context value end used → AllAlive used
      → HasNoUnreachableSuccessor hir end.last
  value_alive {key = key} (named_test {block = block} found empty ends) alive =
      alive key (0, omega arith, refl) block (usable_block-at hir key block found)
  value_alive {key = key} (last_block {block = block} rows row found ends whole) alive =
      alive key (0, omega arith, refl) block (usable_block-at hir key block found)
  value_alive (last_throw {continuation = key} {behind = behind} rows row found throws current whole found' only)
      alive =
      alive key (1, omega arith, refl) behind (usable_block-at hir key behind found')
  value_alive {key = key} (may_throw {used = later} found throws current further spelled whole) alive =
      value_alive spelled (alive_behind (key ∷ []) later refl alive)
  value_alive (value_row {nested_used = u} {value_used = v} {arm_used = w} found row behind arm whole end used) alive =
      subst (λ (e : ValueEnd). HasNoUnreachableSuccessor hir e.last) (sym end)
      (value_alive behind (row_alive u v w used alive).1)

  going_alive : {env : Environment} {key next : BlockId} {context : ValueContext} {value : Value} {end : ValueEnd}
      {used : List BlockId} → SpellsValue hir env key context value end used → GoesTo next end → AllAlive used
      → ends_unreachable hir next ≡ false
  going_alive {next = next} spelled goes alive =
      fails_there (ends_unreachable hir) goes_to
      (subst (HasNoUnreachableSuccessor hir) goes.goes (value_alive spelled alive))

  -- the fallthrough of a value terminal doesn't end in `Unreachable`
  pub nested_alive : {env : Environment} {handler : Option BlockId} {terminal : Terminal} {nested : Nested}
      {used : List BlockId} → SpellsNested hir env handler terminal nested used → AllAlive used
      → ends_unreachable hir nested.fallthrough ≡ false
  nested_alive (sequence_value inner goes) alive = going_alive inner goes alive
  nested_alive (ternary_value {test_used = u} {value_used = v} {other_used = w} test chooses value goes other other_goes
      e) alive =
      going_alive other other_goes (alive_behind v w refl (alive_behind u (v ++ w) e alive))
  nested_alive (logical_value {test_used = u} {value_used = v} {other_used = w} test chooses value arm other goes e)
      alive =
      going_alive other goes (alive_behind v w refl (alive_behind u (v ++ w) e alive))
  nested_alive (optional_value {test_used = u} {value_used = v} test chooses shares value goes e) alive =
      going_alive value goes (alive_behind u v e alive)

  -- neither block between which a test chooses ends in `Unreachable`
  pub test_alive : {env : Environment} {flat : Bool} {key consequent alternate : BlockId} {context : ValueContext}
      {value : Value} {used : List BlockId} → SpellsTest hir env flat key context consequent alternate value used
      → AllAlive used → (ends_unreachable hir consequent ≡ false) × (ends_unreachable hir alternate ≡ false)
  test_alive {consequent = consequent} {alternate} spelled alive =
      let moves = subst (HasNoUnreachableSuccessor hir) spelled.chooses.chooses (value_alive spelled.spelled alive) in
      (fails_there (ends_unreachable hir) then_arm moves, fails_there (ends_unreachable hir) else_arm moves)
