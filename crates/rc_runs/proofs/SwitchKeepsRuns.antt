-- When each run of a switch is a run of another switch: their cases keep their runs.
use Rattle.std.proofs.Common.{◌≡◌, Option, is_none, ◌||◌, refl, ap, ◌∙◌}
use Rattle.rc_names.specs.Numbers.{EvaluationOrder}
use Rattle.rc_hir.specs.Model.{Environment, Place}
use Rattle.rc_tree.specs.Model.{ReactiveLabel}
use Rattle.rc_runs.specs.PlainTree.{Switch, Alternate, Cases, NoCases, Case}
use Rattle.rc_runs.specs.BodyRun.{RunsChosen, chosen_here, chosen_later, RunsCases, falls_into}
use Rattle.rc_runs.specs.BodyRun.{leaves_case, in_case, past_cases, has_default}
use Rattle.rc_runs.proofs.LabelLemmas.{NameAlike, caught_unlabeled-alike}
use Rattle.rc_runs.proofs.PlainLists.{labeled}
use Rattle.rc_runs.proofs.KeepsRunsLemmas.{AreAmong, KeepsRuns, AlternateKeepsRuns, TerminalKeepsRuns}
use Rattle.rc_runs.proofs.KeepsRunsLemmas.{statement-keeps_runs}

module _ (env : Environment) where
  -- each run of the first cases is a run of the second, from a chosen case on and from the first case on; and a default
  -- is among either or neither
  pub record CasesKeepRuns (from to : Cases) : Type 0 where
    pub chosen : (test : Option Place) → AreAmong (RunsChosen env test from) (RunsChosen env test to)
    pub all : AreAmong (RunsCases env from) (RunsCases env to)
    pub default : has_default to ≡ has_default from

  -- either has the runs of the other
  abbrev pub SameCasesRuns : Cases → Cases → Type 0
  SameCasesRuns before after = CasesKeepRuns before after × CasesKeepRuns after before

  pub no_cases-keep_runs : CasesKeepRuns NoCases NoCases
  no_cases-keep_runs = record {
    chosen = λ test events outcome r. r;
    all = λ events outcome r. r;
    default = refl;
  }

  pub case-keeps_runs : (test : Option Place) (body body' : Alternate) (rest rest' : Cases) →
      AlternateKeepsRuns env body body' → CasesKeepRuns rest rest' →
      CasesKeepRuns (Case test body rest) (Case test body' rest')
  case-keeps_runs test body body' rest rest' keeps later = record {
    chosen = from_chosen;
    all = from_first;
    default = ap (λ other. is_none test || other) later.default;
  }
    where
      from_first : AreAmong (RunsCases env (Case test body rest)) (RunsCases env (Case test body' rest'))
      from_first events outcome (falls_into r more e) = falls_into (keeps _ _ r) (later.all _ _ more) e
      from_first events outcome (leaves_case r leaves) = leaves_case (keeps _ _ r) leaves

      from_chosen : (chosen : Option Place) →
          AreAmong (RunsChosen env chosen (Case test body rest)) (RunsChosen env chosen (Case test body' rest'))
      from_chosen chosen events outcome (chosen_here r) = chosen_here (from_first events outcome r)
      from_chosen chosen events outcome (chosen_later r) = chosen_later (later.chosen chosen events outcome r)

  pub switch-keeps_runs : (test : Place) (id : EvaluationOrder) (from to : Cases)
      (label label' : Option ReactiveLabel) → CasesKeepRuns from to → NameAlike label label' →
      KeepsRuns env (labeled (Switch test from id) label) (labeled (Switch test to id) label')
  switch-keeps_runs test id from to label label' keeps alike = statement-keeps_runs env _ _ inside
    where
      inside : TerminalKeepsRuns env (Switch test from id) label (Switch test to id) label'
      inside events outcome (in_case {chosen = chosen} {inner = inner} r q) =
          in_case (keeps.chosen chosen _ _ r) (q ∙ caught_unlabeled-alike label label' alike inner)
      inside events outcome (past_cases none) = past_cases (keeps.default ∙ none)
