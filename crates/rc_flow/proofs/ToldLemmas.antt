-- What the walk tells at a place adds the steps that this means.
use Rattle.std.proofs.Common.{◌≡◌, ◌∙◌, List, [], ◌∷◌, ◌++◌, Option, None, Some, Ok}
use Rattle.std.proofs.Common.{append_assoc, append-nil, flat_map, sym, ap, slice_get}
use Rattle.std.proofs.lemmas.List.Concat.{flat_map-append}
use Rattle.rc_hir.specs.Model.{Environment, HirFunction, Place}
use Rattle.rc_hir.specs.Operands.{context_found}
use Rattle.rc_hir.specs.declared.fault.Fault.TheVariants.{BadName}
use Rattle.rc_hir.specs.declared.fault.TableName.TheVariants.{Functions}
use Rattle.rc_names.specs.Numbers.{EvaluationOrder, FunctionId}
use Rattle.rc_tree.proofs.StepLemmas.{Ok-injective, not_err}
use Rattle.rc_tree.specs.Step.{each}
use Rattle.rc_flow.specs.Collected.{place_steps}
use Rattle.rc_flow.specs.declared.step.Step.{Step}
use Rattle.rc_flow.specs.declared.told.Told.{Told}
use Rattle.rc_flow.specs.declared.told.Told.TheVariants as told
use Rattle.rc_flow.specs.inside.Recording.{recording}
use Rattle.rc_flow.specs.inside.Told.{context_if, steps_told, steps_told_at}

-- one thing more
told_one : (functions : List HirFunction) (before after : List Told) (one : Told) → after ≡ before ++ one ∷ []
    → steps_told functions after ≡ steps_told functions before ++ steps_told_at functions one
told_one functions before after one is =
    ap (steps_told functions) is ∙ flat_map-append (steps_told_at functions) before (one ∷ [])
    ∙ ap (λ more. steps_told functions before ++ more) (append-nil (steps_told_at functions one))

pub told_step : (functions : List HirFunction) (before after : List Told) (step : Step)
    → after ≡ before ++ told.Step step ∷ [] → steps_told functions after ≡ steps_told functions before ++ step ∷ []
told_step functions before after step is = told_one functions before after (told.Step step) is

module _ (env : Environment) (id : EvaluationOrder) where
  -- visits of places add their steps
  pub visited : (places : List Place) (s : List Step)
      → each ((recording env).visit_place id) places s ≡ Ok (tt, s ++ flat_map place_steps places)
  visited [] s = ap (λ steps. Ok (tt, steps)) (sym (append-nil s))
  visited (place ∷ places) s =
      visited places (s ++ place_steps place)
      ∙ ap (λ steps. Ok (tt, steps)) (append_assoc s (place_steps place) (flat_map place_steps places))

  -- so a context that is told is one whose places are visited
  pub context_told : (function : FunctionId) (places : List Place) (before after : List Told)
      → context_found function (slice_get env.functions function.0) ≡ Ok places
      → after ≡ before ++ told.Context function ∷ []
      → each ((recording env).visit_place id) places (steps_told env.functions before)
      ≡ Ok (tt, steps_told env.functions after)
  context_told function places before after is more =
      visited places (steps_told env.functions before)
      ∙ ap (λ all. Ok (tt, steps_told env.functions before ++ flat_map place_steps all))
      (sym (whole (slice_get env.functions function.0) is))
      ∙ ap (λ steps. Ok (tt, steps)) (sym (told_one env.functions before after (told.Context function) more))
    where
      whole : (f : Option HirFunction) → context_found function f ≡ Ok places → context_if f ≡ places
      whole None is = absurd (not_err places (BadName Functions function.0) (sym is))
      whole (Some f) is = Ok-injective f.context places is
