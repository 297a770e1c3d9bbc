-- Where a short end of a value terminal leads: to the test that the value after it answers, or through its own arm.
use Rattle.std.proofs.Common.{◌≡◌, Bool, true, false, List, Option, Some, ◌⊎◌, inl, inr, refl, sym, ap, ◌∙◌, subst}
use Rattle.rc_names.specs.Numbers.{BlockId}
use Rattle.rc_hir.specs.Model.{Terminal, HirFunction, Environment}
use Rattle.rc_hir.specs.Terminal.{evaluation_order}
use Rattle.rc_runs.specs.Event.{Event}
use Rattle.rc_runs.specs.Silent.{is_unset}
use Rattle.rc_runs.specs.PlainTree.{Value}
use Rattle.rc_runs.specs.ShortArms.{SpellsSilentArm, SpellsShortArm, no_arm, left_to_test, own_arm}
use Rattle.rc_runs.specs.ValueGrammar.{Nested, SpellsNested}
use Rattle.rc_runs.specs.ValueRun.{Short, RunsValue}
use Rattle.rc_runs.proofs.OneValue.{row_answers}
use Rattle.rc_runs.proofs.ShortArmLemmas.{answer_ends, left_behind, nested_id}

-- two equal options hold the same
held_same : {A : Type 0} {a b : A} → Some a ≡ Some b → a ≡ b
held_same e = cc

module _ {hir : HirFunction} {env : Environment} where
  -- the id of the row of a usable block's value terminal is set
  pub nested_set : {handler : Option BlockId} {terminal : Terminal} {nested : Nested} {used : List BlockId}
      → is_unset (evaluation_order terminal) ≡ false → SpellsNested hir env handler terminal nested used
      → is_unset nested.id ≡ false
  nested_set set d = sym (ap is_unset (nested_id d)) ∙ set

  -- where the short arm of a value terminal is left to a test, and where it is its own
  pub by_arm : {handler : Option BlockId} {next alternate : BlockId} {answers : Bool}
      {short behind left : Option BlockId} {used : List BlockId}
      → SpellsShortArm hir env handler next answers short behind left used → short ≡ Some alternate
      → ((answers ≡ true) × (left ≡ Some alternate))
      ⊎ ((answers ≡ false) × SpellsSilentArm hir env handler next alternate used)
  by_arm no_arm e = absurd (let bad : ⊥ = cc in bad)
  by_arm left_to_test e = inl (refl, e)
  by_arm {handler} {next} {used = used} (own_arm silent) e =
      inr (refl, subst (λ key. SpellsSilentArm hir env handler next key used) (held_same e) silent)

  -- where the value after the terminal has a short end, exactly what it leaves open is left open
  pub short_end_keeps : {handler : Option BlockId} {next : BlockId} {short behind left : Option BlockId}
      {used : List BlockId} {events : List Event} (is_test : Bool) (nested : Nested) (value : Value)
      → SpellsShortArm hir env handler next (row_answers env is_test nested value) short behind left used
      → RunsValue env is_test value events Short → left ≡ behind
  short_end_keeps {behind = behind} {left} {events = events} is_test nested value arm run =
      go is_test (left_behind arm) run
    where
      go : (is_test : Bool) → (left ≡ behind) ⊎ (row_answers env is_test nested value ≡ true)
          → RunsValue env is_test value events Short → left ≡ behind
      go is_test (inl same) run = same
      go true (inr answers) run = absurd (answer_ends nested.answer value answers run)
      go false (inr answers) run = absurd (let bad : ⊥ = cc in bad)
