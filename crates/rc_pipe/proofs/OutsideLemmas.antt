-- If no operand is outside, there is no last one outside.
use Rattle.std.proofs.Common.{◌≡◌, ◌∷◌, ◌++◌, None, Some, Ok, All, arith, subst}
use Rattle.rc_hir.specs.Model.{Environment}
use Rattle.rc_names.specs.Numbers.{EvaluationOrder, ScopeId}
use Rattle.rc_tree.specs.Model.{ReactiveBlock}
use Rattle.rc_runs.proofs.AllLemmas.{All-right}
use Rattle.rc_checks.specs.Membership.{IsInside, outside}
use Rattle.rc_tree.specs.ScopesIn.{scopes_in}
use Rattle.rc_pipe.specs.Passes.{AreInside, EndsOutside}

pub last_outside : (env : Environment) (body : ReactiveBlock) (id : EvaluationOrder) (scope : ScopeId)
    → AreInside env body → EndsOutside env body id scope → ⊥
last_outside env body id scope inside last =
    let all : All (IsInside env (scopes_in body)) (last.earlier ++ Ok last.operand ∷ last.later) = subst
    (All (IsInside env (scopes_in body))) last.parts inside in
    let here : outside env (scopes_in body) (Ok last.operand) ≡ Ok None =
    All-right (IsInside env (scopes_in body)) last.earlier (Ok last.operand ∷ last.later) all 0 (Ok last.operand)
    (omega arith)
    in
    let there : outside env (scopes_in body) (Ok last.operand) ≡ Ok (Some scope) = last.is_outside in
    let no : ⊥ = cc in no
