-- The read walk lists the steps that are collected of the tree.
use Rattle.std.proofs.Common.{◌≡◌, ◌∙◌, List, [], ◌++◌, Option, None, Some, Result, Ok, Err, refl, sym, ap, subst}
use Rattle.std.proofs.Common.{append_assoc, append-nil, flat_map}
use Rattle.std.proofs.lemmas.List.Concat.{flat_map-append}
use Rattle.std.specs.Option.{option_map_or}
use Rattle.rc_hir.specs.Model.{Environment, Fault, InstructionValue, Place}
use Rattle.rc_hir.specs.Operands.{operands, value_targets}
use Rattle.rc_hir.specs.TerminalOperands.{perhaps_place}
use Rattle.rc_names.specs.Numbers.{EvaluationOrder}
use Rattle.rc_tree.proofs.ReadFollowed.{FollowedParts, block_followed}
use Rattle.rc_tree.proofs.ReadFollowedValues.{FollowedInTurn, FollowedValues, rows_followed, values_followed_if}
use Rattle.rc_tree.specs.CollectedValues.{instruction_of}
use Rattle.rc_tree.specs.Model.{ReactiveBlock, ReactiveInstruction, ReactiveValue}
use Rattle.rc_tree.specs.Read.Values.{inside_base}
use Rattle.rc_tree.specs.ReadSteps.{targets_of}
use Rattle.rc_tree.specs.Step.{Walk, bind, each, next_to, perhaps}
use Rattle.rc_tree.specs.declared.value.ReactiveValue.TheVariants as reactive_values
use Rattle.rc_flow.proofs.ToldLemmas.{visited}
use Rattle.rc_flow.specs.Collected.{Recorded, joined, marked, place_steps, pruned_scope_steps, recorded_joining}
use Rattle.rc_flow.specs.Collected.{recorded_parts, recorded_steps, recorded_values, written}
use Rattle.rc_flow.specs.declared.step.Step.{Step}
use Rattle.rc_flow.specs.inside.Recording.{recording, walked_steps}

abbrev Steps : Type 0
Steps = List Step

-- the walk that adds no step
abbrev unchanged : Walk Steps
unchanged s = Ok (tt, s)

-- the walk that adds these steps, or ends in their fault
abbrev adding : Recorded → Walk Steps
adding recorded s = bind recorded (λ steps. Ok (tt, s ++ steps))

abbrev Adds : Walk Steps → Recorded → Type 0
Adds walk recorded = (s : Steps) → walk s ≡ adding recorded s

nothing : Adds unchanged (Ok [])
nothing s = ap unchanged (sym (append-nil s))

next : (first second : Walk Steps) (x y : Recorded) → Adds first x → Adds second y
    → Adds (next_to first second) (joined x y)
next first second x y h k s = ap (λ r. bind r (λ c. second c.1)) (h s) ∙ by x y k
  where
    by : (x y : Recorded) → Adds second y → bind (adding x s) (λ c. second c.1) ≡ adding (joined x y) s
    by (Ok steps) (Ok more) k = k (s ++ steps) ∙ ap unchanged (append_assoc s steps more)
    by (Ok steps) (Err fault) k = k (s ++ steps)
    by (Err fault) y k = refl

-- a part whose hook at its end adds nothing
to_end : (inside : Walk Steps) (held : Recorded) → Adds inside held → Adds (next_to inside unchanged) held
to_end inside held h s = ap (λ r. bind r (λ c. unchanged c.1)) (h s) ∙ by held
  where
    by : (held : Recorded) → bind (adding held s) (λ c. unchanged c.1) ≡ adding held s
    by (Ok steps) = refl
    by (Err fault) = refl

in_turn : FollowedInTurn Adds recorded_joining
in_turn = record { none = nothing; next = next }

-- the places that an instruction writes are those of the instruction of the value
same_targets : (x : ReactiveValue) → targets_of x ≡ option_map_or value_targets (instruction_of x) []
same_targets (reactive_values.Instruction x) = refl
same_targets _ = refl

-- marks of two lists of places are marks of the list of both
marked_both : (places more : List Place) (held : Recorded)
    → joined (marked places) (joined (marked more) held) ≡ joined (marked (places ++ more)) held
marked_both places more (Ok steps) =
    let one = flat_map place_steps places in
    let other = flat_map place_steps more in
    ap (λ all. Ok all) (sym (append_assoc one other steps) ∙ ap (λ marks. marks ++ steps)
    (sym (flat_map-append place_steps places more)))
marked_both places more (Err fault) = refl

module _ (env : Environment) where
  place_adds : (id : EvaluationOrder) (place : Option Place)
      → Adds (perhaps ((recording env).visit_place id) place) (marked (perhaps_place place))
  place_adds id None s = nothing s
  place_adds id (Some place) s = ap (λ steps. unchanged (s ++ steps)) (sym (append-nil (place_steps place)))

  operands_add : (id : EvaluationOrder) (x : InstructionValue)
      → Adds (inside_base (recording env) env.functions x id) (bind (operands env.functions x) marked)
  operands_add id x s = by (operands env.functions x)
    where
      by : (read : Result (List Place) Fault)
          → bind read (λ places. each ((recording env).visit_place id) places s) ≡ adding (bind read marked) s
      by (Ok places) = visited env id places s
      by (Err fault) = refl

  -- the target, and then the places of the instruction, before the value
  row_adds : (x : ReactiveInstruction) (inside : Walk Steps) (held : Recorded) → Adds inside held
      → Adds (next_to (perhaps ((recording env).visit_lvalue x.id) x.lvalue)
      (next_to (each ((recording env).visit_lvalue x.id) (targets_of x.value)) inside))
      (joined (marked (written x)) (joined (Ok []) held))
  row_adds x inside held h =
      let target = perhaps ((recording env).visit_lvalue x.id) x.lvalue in
      let targets = each ((recording env).visit_lvalue x.id) (targets_of x.value) in
      let last = joined (Ok []) held in
      let walk = next_to target (next_to targets inside) in
      let all : Adds walk (joined (marked (perhaps_place x.lvalue)) (joined (marked (targets_of x.value)) last)) =
      next target (next_to targets inside) (marked (perhaps_place x.lvalue))
      (joined (marked (targets_of x.value)) last) (place_adds x.id x.lvalue)
      (next targets inside (marked (targets_of x.value)) last (visited env x.id (targets_of x.value))
      (next unchanged inside (Ok []) held nothing h))
      in
      let same : joined (marked (perhaps_place x.lvalue)) (joined (marked (targets_of x.value)) last)
      ≡ joined (marked (written x)) last =
      marked_both (perhaps_place x.lvalue) (targets_of x.value) last
      ∙ ap (λ places. joined (marked (perhaps_place x.lvalue ++ places)) last) (same_targets x.value)
      in
      subst (Adds walk) same all

  values_add : FollowedValues (recording env) Adds env.functions (recorded_values env)
  values_add = record {
    in_turn = in_turn;
    operands = operands_add;
    value = λ id x inside held h. to_end inside held h;
    row = λ x inside held h. to_end inside held h;
    target = row_adds;
  }

  parts_add : FollowedParts (recording env) Adds env.functions (recorded_parts env)
  parts_add = record {
    in_turn = in_turn;
    row = rows_followed (recording env) Adds env.functions (recorded_values env) values_add;
    value = values_followed_if (recording env) Adds env.functions (recorded_values env) values_add;
    place = place_adds;
    returned = λ id x s. refl;
    jump = λ id target. nothing;
    at = λ id inside held h. h;
    block = λ x inside held h. to_end inside held h;
    scope = λ x inside held h. to_end inside held h;
    pruned_scope = λ x inside held h. next inside (adding (Ok (pruned_scope_steps env x.scope))) held
        (Ok (pruned_scope_steps env x.scope)) h (λ s. refl);
    terminal = λ x inside held h. next unchanged (next_to inside unchanged) (Ok []) held nothing
        (to_end inside held h);
  }

  -- the walk of a body lists its collecting steps
  pub steps_walked : (body : ReactiveBlock) → recorded_steps env body ≡ walked_steps env body
  steps_walked body = sym (ap (λ r. bind {B = Steps} r (λ walked. Ok walked.1))
      (block_followed (recording env) Adds env.functions (recorded_parts env) parts_add body [])
      ∙ by (recorded_steps env body))
    where
      by : (recorded : Recorded) → bind {B = Steps} (adding recorded []) (λ walked. Ok walked.1) ≡ recorded
      by (Ok steps) = refl
      by (Err fault) = refl
