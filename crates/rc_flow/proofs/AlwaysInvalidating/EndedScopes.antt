-- The scopes of the blocks that end in the steps of a tree are those of its scope blocks.
use Rattle.std.proofs.Common.{◌≡◌, ◌∙◌, Bool, true, false, List, [], ◌∷◌, ◌++◌, Option, None, Some, refl, ap}
use Rattle.std.specs.Option.{option_map_or}
use Rattle.rc_hir.specs.Model.{InstructionValue, Place}
use Rattle.rc_hir.specs.declared.instruction.InstructionValue.TheVariants as kinds
use Rattle.rc_names.specs.Numbers.{ScopeId}
use Rattle.rc_tree.proofs.CollectedRelated.{RelatedParts, collected_related}
use Rattle.rc_tree.specs.CollectedValues.{instruction_of}
use Rattle.rc_tree.specs.Model.{ReactiveBlock, ReactiveValue}
use Rattle.rc_tree.specs.ScopesIn.{scope_parts, scopes_in}
use Rattle.rc_tree.specs.declared.value.ReactiveValue.TheVariants as reactive_values
use Rattle.rc_flow.specs.ValueSteps.{Steps, copied, made, steps_of_instruction, value_step_parts, value_steps_in}
use Rattle.rc_flow.specs.declared.value_step.ValueStep.{ValueStep}
use Rattle.rc_flow.specs.declared.value_step.ValueStep.TheVariants.{Makes, Copies, Ends}

-- the scopes of the blocks that end in a list of steps
abbrev pub ended : List ValueStep → List ScopeId
ended [] = []
ended (Makes name in_scope ∷ steps) = ended steps
ended (Copies from to ∷ steps) = ended steps
ended (Ends scope ∷ steps) = scope ∷ ended steps

ended-append : (xs ys : List ValueStep) → ended (xs ++ ys) ≡ ended xs ++ ended ys
ended-append [] ys = refl
ended-append (Makes name in_scope ∷ xs) ys = ended-append xs ys
ended-append (Copies from to ∷ xs) ys = ended-append xs ys
ended-append (Ends scope ∷ xs) ys = ap (λ l. scope ∷ l) (ended-append xs ys)

-- no row is the end of a scope block
made_none : (in_scope : Bool) (target : Option Place) → ended (made in_scope target) ≡ []
made_none in_scope None = refl
made_none in_scope (Some target) = refl

copied_none : (from : Place) (target : Option Place) → ended (copied from target) ≡ []
copied_none from None = refl
copied_none from (Some target) = refl

instruction_none : (in_scope : Bool) (target : Option Place) (x : InstructionValue)
    → ended (steps_of_instruction in_scope target x) ≡ []
instruction_none in_scope target (kinds.ArrayExpression elements span) = made_none in_scope target
instruction_none in_scope target (kinds.ObjectExpression properties span) = made_none in_scope target
instruction_none in_scope target (kinds.JsxExpression tag props children span) = made_none in_scope target
instruction_none in_scope target (kinds.JsxFragment children span) = made_none in_scope target
instruction_none in_scope target (kinds.NewExpression callee args span) = made_none in_scope target
instruction_none in_scope target (kinds.StoreLocal lvalue value span) = refl
instruction_none in_scope target (kinds.LoadLocal place span) = copied_none place target
instruction_none in_scope target _ = refl

row_none : (in_scope : Bool) (target : Option Place) (x : ReactiveValue)
    → ended (option_map_or (steps_of_instruction in_scope target) (instruction_of x) []) ≡ []
row_none in_scope target (reactive_values.Instruction x) = instruction_none in_scope target x
row_none in_scope target _ = refl

-- the blocks that end in the steps of a part are those of the part
abbrev SameEnds : Steps → List ScopeId → Type 0
SameEnds steps scopes = (in_scope : Bool) → ended (steps in_scope) ≡ scopes

same_parts : RelatedParts SameEnds value_step_parts scope_parts
same_parts = record {
  joined = record {
    nothing = λ in_scope. refl;
    both = λ x x1 y y1 h k in_scope.
        ended-append (x in_scope) (x1 in_scope) ∙ (λ i. h in_scope i ++ k in_scope i);
  };
  row = λ x in_scope. row_none in_scope x.lvalue x.value;
  value = λ id x in_scope. refl;
  place = λ id x in_scope. refl;
  returned = λ id x in_scope. refl;
  jump = λ target in_scope. refl;
  label = λ label in_scope. refl;
  scope = λ scope x y h in_scope.
      ended-append (x true) (Ends scope ∷ []) ∙ ap (λ l. l ++ scope ∷ []) (h true);
  pruned_scope = λ scope x y h. h;
}

pub same_ends : (body : ReactiveBlock) → ended (value_steps_in body) ≡ scopes_in body
same_ends body = collected_related SameEnds value_step_parts scope_parts same_parts body false
