-- The membership check, visit by visit: the scopes that are open, and the last operand outside so far.
use Rattle.std.specs.Prelude.{List, [], ◌∷◌, Option, None, Some, Result, Ok, Err, drop}
use Rattle.rc_hir.specs.Model.{Environment, Fault}
use Rattle.rc_names.specs.Numbers.{EvaluationOrder, ScopeId}
use Rattle.rc_tree.specs.Step.{bind}
use Rattle.rc_tree.specs.ReadSteps.{ReadSteps, idle}
use Rattle.rc_tree.specs.declared.hooks.Enter.TheVariants.{Inside}
use Rattle.rc_checks.specs.declared.membership.visitor.Outside.{Outside}
use Rattle.rc_checks.specs.declared.membership.visitor.Seen.{Seen}
use Rattle.rc_checks.specs.Membership.{operand_outside}
use Rattle.rc_tree.specs.Visits.{Visit}

-- the id and scope of an operand outside take the place of those before
abbrev pub latest_outside : EvaluationOrder → Option ScopeId → Option Outside → Option Outside
latest_outside id None last = last
latest_outside id (Some scope) last = Some (record { id = id; scope = scope })

module _ (env : Environment) (blocks : List ScopeId) where
  -- one visit
  abbrev pub visit_step : Visit → Option Outside → Result (Option Outside) Fault
  visit_step (Ok operand) last = bind (operand_outside env blocks operand)
      (λ scope. Ok (latest_outside operand.id scope last))
  visit_step (Err fault) last = Err fault

  -- visits, one after the other
  abbrev pub after_visits : List Visit → Option Outside → Result (Option Outside) Fault
  after_visits [] last = Ok last
  after_visits (visit ∷ visits) last = bind (visit_step visit last) (after_visits visits)

  -- the hooks that do something: a place is a visit, and a scope block is open inside
  abbrev pub membership_steps : ReadSteps Seen
  membership_steps = record idle {
    visit_place = λ id place s.
        bind (visit_step (Ok (record { id = id; place = place; enclosing = s.around })) s.outside)
        (λ last. Ok (tt, record { around = s.around; outside = last }));
    enter_scope = λ x s. Ok (Inside, record { around = x.scope ∷ s.around; outside = s.outside });
    leave_scope = λ x s. Ok (tt, record { around = drop 1 s.around; outside = s.outside });
  }
