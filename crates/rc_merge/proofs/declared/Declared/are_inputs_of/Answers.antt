use Rattle.std.proofs.Common.{◌≡◌, ◌∙◌, Bool, List, [], ◌∷◌, ap, map, refl, subst}
use Rattle.std.specs.Prelude.{IfOk}
use Rattle.rc_hir.specs.Model.{DeclarationEntry, Environment}
use Rattle.rc_merge.specs.Inputs.{Input, as_inputs, inputs_of, same_inputs, whole}
use Rattle.rc_merge.specs.Joining.{declared_name}
use Rattle.rc_merge.specs.inside.Declarations.{current_of}
use Rattle.rc_merge.specs.inside.Indexed.{current}
use Rattle.rc_merge.proofs.declared.Declared.are_inputs_of.Goals as goal

named_inputs : (env : Environment) (es : List DeclarationEntry)
    → map whole (map (declared_name env) es) ≡ as_inputs env es
named_inputs env [] = refl
named_inputs env (e ∷ es) = ap (λ l. whole (declared_name env e) ∷ l) (named_inputs env es)

pub returns : goal.returns
returns c =
    let env = c.args.known.now.env.now in
    let declared = c.args.self.now in
    let inputs = inputs_of env c.args.dependencies.now in
    subst (λ (l : List Input). IfOk c.are_declared_inputs.result (λ (same : Bool). same ≡ same_inputs l inputs))
    (ap (map whole) (c.as_slice-4.ensures ∙ c.in_ok-names.ensures ∙ ap (map (declared_name env))
    (c.as_slice-3.ensures ∙ c.in_ok-entries.ensures ∙ ap (current_of declared.end) c.as_slice-2.ensures))
    ∙ named_inputs env (current declared))
    c.are_declared_inputs.ensures
