-- The rewriting walk of values and rows: by its first step with any fuel, and as a step, since its fuel is enough.
use Rattle.std.proofs.Common.{◌≡◌, arith, ℕ, zero, suc, List, [], Result, refl}
use Rattle.rc_hir.specs.Model.{Fault, HirFunction}
use Rattle.rc_names.specs.Numbers.{EvaluationOrder}
use Rattle.rc_tree.proofs.EnoughFuel.{known_instruction, known_instruction_inside, known_value_inside}
use Rattle.rc_tree.proofs.EnoughFuel.{known_value_to}
use Rattle.rc_tree.proofs.FuelLemmas.{gives_settled}
use Rattle.rc_tree.specs.Step.{IsStep}
use Rattle.rc_tree.specs.Fuel.{after, FueledWalk, in_turn, kept_into, by_answer}
use Rattle.rc_tree.specs.inside.EnoughFuel.{IsFueled}
use Rattle.rc_tree.specs.Rewrite.Values.{inside_instruction, inside_value, instruction_at, instruction_inside, rows_at}
use Rattle.rc_tree.specs.Rewrite.Values.{rewrite_instruction, rewrite_value, value_inside, value_to}
use Rattle.rc_tree.specs.RewriteSteps.{RewriteSteps, EntersNoDeeper}
use Rattle.rc_tree.specs.declared.value.ReactiveInstruction.{ReactiveInstruction, size-ReactiveInstruction}
use Rattle.rc_tree.specs.declared.value.ReactiveValue.{ReactiveValue, size-ReactiveValue}

module _ {T S : Type 0} (v : RewriteSteps (T × S)) (functions : T → List HirFunction) where
  pub meets_value_to : (id : EvaluationOrder) (w : T × S) (x : ReactiveValue) (r : Result (Unit {0}) Fault)
      (t : (T × S) × ReactiveValue)
      → ((m : ℕ) → IsFueled (after (v.enter_value id w x) (λ q. by_answer
      (value_inside v functions (value_to v functions m) id) (v.leave_value id) q.0 q.1)) r t)
      → (n : ℕ) → IsFueled (value_to v functions n id w x) r t
  unfolding value_to
  meets_value_to id w x r t h zero = tt
  meets_value_to id w x r t h (suc m) = h m

  pub meets_instruction_at : (inner : EvaluationOrder → FueledWalk (T × S) ReactiveValue) (w : T × S)
      (x : ReactiveInstruction) (r : Result (Unit {0}) Fault) (t : (T × S) × ReactiveInstruction)
      → IsFueled (after (v.enter_instruction w x) (λ q. by_answer (instruction_inside v functions inner)
      v.leave_instruction q.0 q.1)) r t
      → IsFueled (instruction_at v functions inner w x) r t
  unfolding instruction_at
  meets_instruction_at inner w x r t h = h

  pub rows_at-in_turn : (inner : EvaluationOrder → FueledWalk (T × S) ReactiveValue) (w : T × S)
      (rows : List ReactiveInstruction)
      → rows_at v functions inner w rows ≡ in_turn (kept_into (instruction_at v functions inner)) w [] rows
  unfolding rows_at
  rows_at-in_turn inner w rows = refl

  pub gives_rewrite_value : EntersNoDeeper v → (id : EvaluationOrder) (w : T × S) (x : ReactiveValue)
      (r : Result (Unit {0}) Fault) (t : (T × S) × ReactiveValue)
      → ((n : ℕ) → IsFueled (value_to v functions n id w x) r t) → IsStep (rewrite_value v functions id w x) r t
  unfolding rewrite_value
  gives_rewrite_value enters id w x r t h =
      gives_settled (value_to v functions (suc (size-ReactiveValue x)) id w x) r t
      (known_value_to v functions enters (suc (size-ReactiveValue x)) id w x (omega arith))
      (h (suc (size-ReactiveValue x)))

  pub gives_inside_value : EntersNoDeeper v → (id : EvaluationOrder) (w : T × S) (x : ReactiveValue)
      (r : Result (Unit {0}) Fault) (t : (T × S) × ReactiveValue)
      → ((n : ℕ) → IsFueled (value_inside v functions (value_to v functions n) id w x) r t)
      → IsStep (inside_value v functions id w x) r t
  unfolding inside_value
  gives_inside_value enters id w x r t h =
      gives_settled (value_inside v functions (value_to v functions (size-ReactiveValue x)) id w x) r t
      (known_value_inside v functions (size-ReactiveValue x) (value_to v functions (size-ReactiveValue x))
      (known_value_to v functions enters (size-ReactiveValue x)) enters id w x (omega arith))
      (h (size-ReactiveValue x))

  pub gives_rewrite_instruction : EntersNoDeeper v → (w : T × S) (x : ReactiveInstruction) (r : Result (Unit {0}) Fault)
      (t : (T × S) × ReactiveInstruction)
      → ((n : ℕ) → IsFueled (instruction_at v functions (value_to v functions n) w x) r t)
      → IsStep (rewrite_instruction v functions w x) r t
  unfolding rewrite_instruction
  gives_rewrite_instruction enters w x r t h =
      gives_settled (instruction_at v functions (value_to v functions (size-ReactiveInstruction x)) w x) r t
      (known_instruction v functions (size-ReactiveInstruction x) (value_to v functions (size-ReactiveInstruction x))
      (known_value_to v functions enters (size-ReactiveInstruction x)) enters w x (omega arith))
      (h (size-ReactiveInstruction x))

  pub gives_inside_instruction : EntersNoDeeper v → (w : T × S) (x : ReactiveInstruction) (r : Result (Unit {0}) Fault)
      (t : (T × S) × ReactiveInstruction)
      → ((n : ℕ) → IsFueled (instruction_inside v functions (value_to v functions n) w x) r t)
      → IsStep (inside_instruction v functions w x) r t
  unfolding inside_instruction
  gives_inside_instruction enters w x r t h =
      gives_settled (instruction_inside v functions (value_to v functions (size-ReactiveInstruction x)) w x) r t
      (known_instruction_inside v functions (size-ReactiveInstruction x)
      (value_to v functions (size-ReactiveInstruction x))
      (known_value_to v functions enters (size-ReactiveInstruction x)) w x (omega arith))
      (h (size-ReactiveInstruction x))

-- with these, `search` follows the rewriting walk of a row or value through its calls
pub ruleset rewriting_values = (
  meets_value_to,
  meets_instruction_at,
  gives_rewrite_value,
  gives_inside_value,
  gives_rewrite_instruction,
  gives_inside_instruction,
)
