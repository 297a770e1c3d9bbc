-- If the walk of a function succeeds, so does the walk of each function that it holds; if it fails with a cycle, a hook
-- or the walk of a function that it holds does.
use Rattle.std.proofs.Common.{◌≡◌, ◌⊎◌, inl, inr, ℕ, zero, suc, List, [], ◌∷◌, Option, None, Some, Result, Ok, Err, ap}
use Rattle.std.proofs.Common.{refl, sym, subst, ◌∙◌}
use Rattle.std.specs.Prelude.{slice_get}
use Rattle.rc_names.specs.Numbers.{BlockId, EvaluationOrder, FunctionId, InstructionId}
use Rattle.rc_hir.specs.Operands.{operands, context_found}
use Rattle.rc_hir.specs.Terminal.{evaluation_order}
use Rattle.rc_hir.specs.TerminalOperands.{terminal_operands}
use Rattle.rc_hir.specs.Model.{Fault, BasicBlock, HirFunction, Instruction, InstructionValue}
use Rattle.rc_hir.specs.declared.fault.Fault.TheVariants.{FunctionCycle}
use Rattle.rc_hir.specs.declared.instruction.InstructionValue.TheVariants as kinds
use Rattle.rc_tree.proofs.ReadLemmas.{read_instruction-around, inside_instruction-parts, read_value-around}
use Rattle.rc_tree.proofs.ReadLemmas.{inside-Instruction}
use Rattle.rc_tree.specs.Nested.{HasRow, in_block, HasHookFault, by_id, by_place, by_lvalue, by_param}
use Rattle.rc_tree.specs.Nested.{by_enter_instruction, by_leave_instruction, by_enter_value, by_leave_value}
use Rattle.rc_tree.specs.Step.{Step, Walk, bind, next_to, each, perhaps, by_answer, around}
use Rattle.rc_tree.specs.Read.Values.{inside_base, inside_value, inside_instruction, read_instruction, read_value}
use Rattle.rc_tree.specs.ReadFunction.{as_row, held_function, param_place, row_and_function, numbered_row, block_row}
use Rattle.rc_tree.specs.ReadFunction.{basic_block, inside_function, numbered_function}
use Rattle.rc_tree.specs.ReadSteps.{ReadSteps, targets_of}
use Rattle.rc_tree.specs.declared.value.ReactiveValue.TheVariants as reactive_values
use Rattle.rc_tree.specs.Model.{Enter}
use Rattle.rc_tree.specs.declared.hooks.Enter.TheVariants.{Inside, Skip}

-- if two steps succeed, each of them does
bind_answers : {A B : Type 0} (first : Result A Fault) (next : A → Result B Fault) (b : B) → bind first next ≡ Ok b
    → (a : A) × (first ≡ Ok a) × (next a ≡ Ok b)
bind_answers (Ok a) next b e = (a, refl, e)
bind_answers (Err fault) next b e = let bad : ⊥ = cc in absurd bad

-- if two steps fail, the fault is that of the first or of the second
bind_fails : {A B : Type 0} (first : Result A Fault) (next : A → Result B Fault) (fault : Fault)
    → bind first next ≡ Err fault → (first ≡ Err fault) ⊎ ((a : A) × (next a ≡ Err fault))
bind_fails (Ok a) next fault e = inr (a, e)
bind_fails (Err other) next fault e = let same : other ≡ fault = cc in inl (ap (λ (f : Fault). Err f) same)

-- a step fails with the fault, from some state
abbrev pub Fails : {S A : Type 0} → Step S A → Fault → Type 0
Fails {S = S} step fault = (s : S) × (step s ≡ Err fault)

module _ {S : Type 0} where
  next_fails : (first second : Walk S) (fault : Fault) → Fails (next_to first second) fault → Fails first fault
      ⊎ Fails second fault
  next_fails first second fault f = elim (bind_fails (first f.0) (λ r. second r.1) fault f.1) [
    | inl e ↦ inl (f.0, e)
    | inr q ↦ inr (q.0.1, q.1)
  ]

  answer_fails : (inside leave : Walk S) (answer : Enter) (s : S) (fault : Fault)
      → by_answer inside leave answer s ≡ Err fault → Fails inside fault ⊎ Fails leave fault
  answer_fails inside leave Inside s fault e = elim (bind_fails (inside s) (λ r. leave r.1) fault e) [
    | inl h ↦ inl (s, h)
    | inr q ↦ inr (q.0.1, q.1)
  ]
  answer_fails inside leave Skip s fault e = let bad : ⊥ = cc in absurd bad

  around_fails : (enter : Step S Enter) (inside leave : Walk S) (fault : Fault)
      → Fails (around enter inside leave) fault → Fails enter fault ⊎ (Fails inside fault ⊎ Fails leave fault)
  around_fails enter inside leave fault f =
      elim (bind_fails (enter f.0) (λ r. by_answer inside leave r.0 r.1) fault f.1) [
        | inl e ↦ inl (f.0, e)
        | inr q ↦ inr (answer_fails inside leave q.0.0 q.0.1 fault q.1)
      ]

  module _ {X : Type 0} (step : X → Walk S) where
    -- if the walk of a list succeeds, so does the walk of each entry
    each_answers : (xs : List X) (i : ℕ) (x : X) (s : S) (r : Unit {0} × S) → slice_get xs i ≡ Some x
        → each step xs s ≡ Ok r → (t : S) × (q : Unit {0} × S) × (step x t ≡ Ok q)
    each_answers [] i x s r at e = let bad : ⊥ = cc in absurd bad
    each_answers (y ∷ ys) zero x s r at e =
        let p = bind_answers (step y s) (λ q. each step ys q.1) r e in
        let same : y ≡ x = cc in (s, p.0, subst (λ z. step z s ≡ Ok p.0) same p.1)
    each_answers (y ∷ ys) (suc i) x s r at e =
        let p = bind_answers (step y s) (λ q. each step ys q.1) r e in each_answers ys i x p.0.1 r at p.2

    -- if the walk of a list fails, so does the walk of an entry
    each_fails : (xs : List X) (s : S) (fault : Fault) → each step xs s ≡ Err fault → (i : ℕ) × (x : X)
        × (slice_get xs i ≡ Some x) × Fails (step x) fault
    each_fails [] s fault e = let bad : ⊥ = cc in absurd bad
    each_fails (y ∷ ys) s fault e = elim (bind_fails (step y s) (λ q. each step ys q.1) fault e) [
      | inl h ↦ (zero, y, refl, (s, h))
      | inr q ↦ let p = each_fails ys q.0.1 fault q.1 in (suc p.0, p.1, p.2, p.3)
    ]

    perhaps_fails : (x : Option X) (s : S) (fault : Fault) → perhaps step x s ≡ Err fault → (y : X) × (x ≡ Some y)
        × Fails (step y) fault
    perhaps_fails None s fault e = let bad : ⊥ = cc in absurd bad
    perhaps_fails (Some y) s fault e = (y, refl, (s, e))

context_fails : (func : FunctionId) (x : Option HirFunction) (g : FunctionId)
    → context_found func x ≡ Err (FunctionCycle g) → ⊥
context_fails func None g e = cc
context_fails func (Some x) g e = cc

-- looking operands up finds no cycle
operands_fail : (functions : List HirFunction) (x : InstructionValue) (g : FunctionId)
    → operands functions x ≡ Err (FunctionCycle g) → ⊥
operands_fail functions (kinds.ObjectMethod lowered span) g e =
    context_fails lowered.func (slice_get functions lowered.func.0) g e
operands_fail functions (kinds.FunctionExpression name lowered span) g e =
    context_fails lowered.func (slice_get functions lowered.func.0) g e
operands_fail functions _ g e = cc

module _ {S : Type 0} (v : ReadSteps S) (functions : List HirFunction) where
  -- a cycle that the walk of an instruction finds is a hook's fault
  base_fails : (x : InstructionValue) (id : EvaluationOrder) (g : FunctionId)
      → Fails (inside_base v functions x id) (FunctionCycle g) → HasHookFault v (FunctionCycle g)
  base_fails x id g f =
      elim (bind_fails (operands functions x) (λ places. each (v.visit_place id) places f.0) (FunctionCycle g) f.1) [
        | inl e ↦ absurd (operands_fail functions x g e)
        | inr q ↦ let p = each_fails (v.visit_place id) q.0 f.0 (FunctionCycle g) q.1 in by_place id p.1 p.3.0 p.3.1
      ]

  value_fails : (x : InstructionValue) (id : EvaluationOrder) (g : FunctionId)
      → Fails (read_value v functions (reactive_values.Instruction x) id) (FunctionCycle g)
      → HasHookFault v (FunctionCycle g)
  value_fails x id g f = by_part (around_fails (v.enter_value id (reactive_values.Instruction x))
      (inside_value v functions (reactive_values.Instruction x) id) (v.leave_value id (reactive_values.Instruction x))
      (FunctionCycle g)
      (f.0, sym (read_value-around v functions (reactive_values.Instruction x) id f.0) ∙ f.1))
    where
      by_part : Fails (v.enter_value id (reactive_values.Instruction x)) (FunctionCycle g)
          ⊎ (Fails (inside_value v functions (reactive_values.Instruction x) id) (FunctionCycle g)
          ⊎ Fails (v.leave_value id (reactive_values.Instruction x)) (FunctionCycle g))
          → HasHookFault v (FunctionCycle g)
      by_part (inl h) = by_enter_value id (reactive_values.Instruction x) h.0 h.1
      by_part (inr (inl h)) = base_fails x id g (h.0, sym (inside-Instruction v functions x id h.0) ∙ h.1)
      by_part (inr (inr h)) = by_leave_value id (reactive_values.Instruction x) h.0 h.1

  -- the same of the inside of a row
  inside_row_fails : (x : Instruction) (g : FunctionId) → Fails (inside_instruction v functions (as_row x))
      (FunctionCycle g) → HasHookFault v (FunctionCycle g)
  inside_row_fails x g f = at_id (next_fails (v.visit_id x.id) behind_id (FunctionCycle g)
      (f.0, sym (inside_instruction-parts v functions (as_row x) f.0) ∙ f.1))
    where
      behind_targets : Walk S
      behind_targets = read_value v functions (reactive_values.Instruction x.value) x.id

      behind_target : Walk S
      behind_target = next_to (each (v.visit_lvalue x.id) (targets_of
          (reactive_values.Instruction x.value))) behind_targets

      behind_id : Walk S
      behind_id = next_to (perhaps (v.visit_lvalue x.id) (Some x.lvalue)) behind_target

      at_targets : Fails (each (v.visit_lvalue x.id) (targets_of (reactive_values.Instruction x.value)))
          (FunctionCycle g)
          ⊎ Fails behind_targets (FunctionCycle g) → HasHookFault v (FunctionCycle g)
      at_targets (inl h) =
          let p = each_fails (v.visit_lvalue x.id) (targets_of (reactive_values.Instruction x.value)) h.0
          (FunctionCycle g) h.1 in
          by_lvalue x.id p.1 p.3.0 p.3.1
      at_targets (inr h) = value_fails x.value x.id g h

      at_target : Fails (perhaps (v.visit_lvalue x.id) (Some x.lvalue)) (FunctionCycle g)
          ⊎ Fails behind_target (FunctionCycle g) → HasHookFault v (FunctionCycle g)
      at_target (inl h) = by_lvalue x.id x.lvalue h.0 h.1
      at_target (inr h) = at_targets (next_fails (each (v.visit_lvalue x.id)
          (targets_of (reactive_values.Instruction x.value)))
          behind_targets (FunctionCycle g) h)

      at_id : Fails (v.visit_id x.id) (FunctionCycle g) ⊎ Fails behind_id (FunctionCycle g)
          → HasHookFault v (FunctionCycle g)
      at_id (inl h) = by_id x.id h.0 h.1
      at_id (inr h) = at_target (next_fails (perhaps (v.visit_lvalue x.id) (Some x.lvalue)) behind_target
          (FunctionCycle g) h)

  -- the same of a row
  row_fails : (x : Instruction) (g : FunctionId) → Fails (read_instruction v functions (as_row x)) (FunctionCycle g)
      → HasHookFault v (FunctionCycle g)
  row_fails x g f = by_part (around_fails (v.enter_instruction (as_row x)) (inside_instruction v functions (as_row x))
      (v.leave_instruction (as_row x)) (FunctionCycle g)
      (f.0, sym (read_instruction-around v functions (as_row x) f.0) ∙ f.1))
    where
      by_part : Fails (v.enter_instruction (as_row x)) (FunctionCycle g)
          ⊎ (Fails (inside_instruction v functions (as_row x)) (FunctionCycle g)
          ⊎ Fails (v.leave_instruction (as_row x)) (FunctionCycle g))
          → HasHookFault v (FunctionCycle g)
      by_part (inl h) = by_enter_instruction (as_row x) h.0 h.1
      by_part (inr (inl h)) = inside_row_fails x g h
      by_part (inr (inr h)) = by_leave_instruction (as_row x) h.0 h.1

  module _ (inner : FunctionId → Walk S) where
    -- the walk of a nested function succeeds, from some state
    abbrev pub Answers : FunctionId → Type 0
    Answers func = (s : S) × (r : Unit {0} × S) × (inner func s ≡ Ok r)

    row_answers : (x : Instruction) (held : FunctionId) (s : S) (r : Unit {0} × S) → held_function x.value ≡ Some held
        → row_and_function v functions inner x s ≡ Ok r → Answers held
    row_answers x held s r at e =
        let p = bind_answers (read_instruction v functions (as_row x) s)
        (λ q. perhaps inner (held_function x.value) q.1) r e in
        (p.0.1, r, subst (λ (h : Option FunctionId). perhaps inner h p.0.1 ≡ Ok r) at p.2)

    -- if the walk of a function succeeds, so does that of each function directly inside it
    pub function_answers : (x : HirFunction) (row : Instruction) (held : FunctionId) (s : S) (r : Unit {0} × S)
        → HasRow x row → held_function row.value ≡ Some held → inside_function v functions inner x s ≡ Ok r
        → Answers held
    function_answers x row held s r (in_block i k entry id at_block at_id at_row) holds e =
        let blocks = bind_answers (each (λ p. v.visit_param (param_place p)) x.params s)
        (λ q. each (basic_block v functions inner x.instructions) x.body.blocks q.1) r e in
        let block = each_answers (basic_block v functions inner x.instructions) x.body.blocks i entry blocks.0.1 r
        at_block blocks.2 in
        let rows = bind_answers (each (block_row v functions inner x.instructions) entry.1.instructions block.0)
        (λ q. each (v.visit_place (evaluation_order entry.1.terminal)) (terminal_operands entry.1.terminal) q.1) block.1
        block.2 in
        let one = each_answers (block_row v functions inner x.instructions) entry.1.instructions k id block.0 rows.0
        at_id rows.1 in
        row_answers row held one.0 one.1 holds (subst (λ (h : Option Instruction). numbered_row v functions inner id h
        one.0 ≡ Ok one.1) at_row one.2)

    -- a cycle in a row is a hook's fault, or is found in the function that is the row's value
    abbrev RowFails : Instruction → FunctionId → Type 0
    RowFails x g = HasHookFault v (FunctionCycle g) ⊎ ((held : FunctionId) × (held_function x.value ≡ Some held)
        × Fails (inner held) (FunctionCycle g))

    held_fails : (x : Instruction) (g : FunctionId) → Fails (row_and_function v functions inner x) (FunctionCycle g)
        → RowFails x g
    held_fails x g f = by_part (next_fails (read_instruction v functions (as_row x))
        (perhaps inner (held_function x.value)) (FunctionCycle g) f)
      where
        by_part : Fails (read_instruction v functions (as_row x)) (FunctionCycle g)
            ⊎ Fails (perhaps inner (held_function x.value)) (FunctionCycle g) → RowFails x g
        by_part (inl h) = inl (row_fails x g h)
        by_part (inr h) = inr (perhaps_fails inner (held_function x.value) h.0 (FunctionCycle g) h.1)

    -- the row with a number that is in the table
    numbered_fails : (id : InstructionId) (x : Option Instruction) (s : S) (g : FunctionId)
        → numbered_row v functions inner id x s ≡ Err (FunctionCycle g) → (row : Instruction) × (x ≡ Some row)
        × RowFails row g
    numbered_fails id None s g e = let bad : ⊥ = cc in absurd bad
    numbered_fails id (Some row) s g e = (row, refl, held_fails row g (s, e))

    -- a cycle in a function is a hook's fault, or is found in a function directly inside it
    abbrev pub BlockFails : HirFunction → FunctionId → Type 0
    BlockFails x g = HasHookFault v (FunctionCycle g) ⊎ ((row : Instruction) × HasRow x row × (held : FunctionId)
        × (held_function row.value ≡ Some held) × Fails (inner held) (FunctionCycle g))

    named_fails : (x : HirFunction) (i : ℕ) (entry : BlockId × BasicBlock) (g : FunctionId)
        → slice_get x.body.blocks i ≡ Some entry
        → Fails (each (block_row v functions inner x.instructions) entry.1.instructions) (FunctionCycle g)
        → BlockFails x g
    named_fails x i entry g at f =
        let one = each_fails (block_row v functions inner x.instructions) entry.1.instructions f.0 (FunctionCycle g) f.1
        in
        let row = numbered_fails one.1 (slice_get x.instructions one.1.0) one.3.0 g one.3.1 in
        by_row_of row.0 (in_block i one.0 entry one.1 at one.2 row.1) row.2
      where
        by_row_of : (row : Instruction) → HasRow x row → RowFails row g → BlockFails x g
        by_row_of row named (inl h) = inl h
        by_row_of row named (inr h) = inr (row, named, h.0, h.1, h.2)

    block_fails : (x : HirFunction) (g : FunctionId) → Fails
        (each (basic_block v functions inner x.instructions) x.body.blocks) (FunctionCycle g) → BlockFails x g
    block_fails x g f =
        let one = each_fails (basic_block v functions inner x.instructions) x.body.blocks f.0 (FunctionCycle g) f.1 in
        by_part one.0 one.1 one.2 (next_fails (each (block_row v functions inner x.instructions) one.1.1.instructions)
        (each (v.visit_place (evaluation_order one.1.1.terminal)) (terminal_operands one.1.1.terminal))
        (FunctionCycle g) one.3)
      where
        by_part : (i : ℕ) (entry : BlockId × BasicBlock) → slice_get x.body.blocks i ≡ Some entry
            → Fails (each (block_row v functions inner x.instructions) entry.1.instructions) (FunctionCycle g)
            ⊎ Fails (each (v.visit_place (evaluation_order entry.1.terminal)) (terminal_operands entry.1.terminal))
            (FunctionCycle g)
            → BlockFails x g
        by_part i entry at (inl h) = named_fails x i entry g at h
        by_part i entry at (inr h) =
            let p = each_fails (v.visit_place (evaluation_order entry.1.terminal)) (terminal_operands entry.1.terminal)
            h.0 (FunctionCycle g) h.1 in
            inl (by_place (evaluation_order entry.1.terminal) p.1 p.3.0 p.3.1)

    function_fails : (x : HirFunction) (g : FunctionId) → Fails (inside_function v functions inner x) (FunctionCycle g)
        → BlockFails x g
    function_fails x g f = by_part (next_fails (each (λ p. v.visit_param (param_place p)) x.params)
        (each (basic_block v functions inner x.instructions) x.body.blocks) (FunctionCycle g) f)
      where
        by_part : Fails (each (λ p. v.visit_param (param_place p)) x.params) (FunctionCycle g)
            ⊎ Fails (each (basic_block v functions inner x.instructions) x.body.blocks) (FunctionCycle g)
            → BlockFails x g
        by_part (inl h) = let p = each_fails (λ p. v.visit_param (param_place p)) x.params h.0 (FunctionCycle g) h.1 in
            inl (by_param (param_place p.1) p.3.0 p.3.1)
        by_part (inr h) = block_fails x g h

    pub looked_up : (func : FunctionId) (x : Option HirFunction) (s : S) (g : FunctionId)
        → numbered_function v functions inner func x s ≡ Err (FunctionCycle g) → (function : HirFunction)
        × (x ≡ Some function) × BlockFails function g
    looked_up func None s g e = let bad : ⊥ = cc in absurd bad
    looked_up func (Some x) s g e = (x, refl, function_fails x g (s, e))
