-- How runs of the graph go on after a row: one of a block, or one that a value terminal is.
use Rattle.std.proofs.Common.{◌≡◌, List, ◌++◌, Bool, true, false, Option, None, refl, sym, subst}
use Rattle.rc_names.specs.Numbers.{BlockId}
use Rattle.rc_hir.specs.Model.{HirFunction, Environment}
use Rattle.rc_runs.specs.Event.{Event, End}
use Rattle.rc_runs.specs.Graph.{ends_unreachable}
use Rattle.rc_runs.specs.GraphRun.{GraphRunAt}
use Rattle.rc_runs.specs.ListContext.{ListContext}
use Rattle.rc_runs.specs.ShortArms.{SpellsShortArm}
use Rattle.rc_runs.specs.Fallthrough.{falls_to}
use Rattle.rc_runs.specs.Completion.{Completion, Normal, leaves, row_completion}
use Rattle.rc_runs.specs.ValueRun.{Progress}
use Rattle.rc_runs.proofs.FramesLemmas.{leaving, falls_to-next}
use Rattle.rc_runs.proofs.Covers.{Covers, passes, cut_short, stays}
use Rattle.rc_runs.proofs.NestedRowToGraph.{past_own_arm}
use Rattle.rc_runs.proofs.AfterParts.{After, ends, leads, ahead}

module _ {hir : HirFunction} {env : Environment} where
  -- a row, and then more statements
  pub row_onward : {context : ListContext} {whole behind : List Event → End → Type 0} {first second all : List Event}
      {progress : Progress} {outcome : Completion} → Covers hir env None whole behind first progress
      → Normal ≡ row_completion progress → After hir env context behind second outcome → all ≡ first ++ second
      → After hir env context whole all outcome
  row_onward {first = first} (passes go) o after q = ahead first after q (λ events end run. go.on events end run)
  row_onward (cut_short e go) o after q = absurd (let bad : ⊥ = cc in bad)
  row_onward (stays stop) o after q = absurd (let bad : ⊥ = cc in bad)

  -- a row inside which the run stops
  pub row_stops : {context : ListContext} {whole behind : List Event → End → Type 0} {events : List Event}
      {progress : Progress} {outcome : Completion} → Covers hir env None whole behind events progress
      → outcome ≡ row_completion progress → leaves outcome ≡ true → After hir env context whole events outcome
  row_stops (passes go) o l = absurd (let bad : ⊥ = cc in bad)
  row_stops (cut_short e go) o l = absurd (let bad : ⊥ = cc in bad)
  row_stops {context} {whole} {events = events} (stays stop) o l =
      subst (After hir env context whole events) (sym o) (ends stop)

  -- a value terminal, up to its fallthrough
  pub value_onward : {whole : List Event → End → Type 0} {handler : Option BlockId} {fallthrough : BlockId}
      {short left : Option BlockId}
      {used : List BlockId} {events : List Event} {progress : Progress} {outcome : Completion} (opened : Bool)
      (context : ListContext) → outcome ≡ row_completion progress
      → SpellsShortArm hir env handler fallthrough false short None left used
      → falls_to opened fallthrough context.next ≡ true → ends_unreachable hir fallthrough ≡ false
      → Covers hir env short whole (GraphRunAt hir env fallthrough) events progress
      → After hir env (leaving opened fallthrough context) whole events outcome
  value_onward {whole} {fallthrough} {events = events} opened context o arm falls live (stays stop) =
      subst (After hir env (leaving opened fallthrough context) whole events) (sym o) (ends stop)
  value_onward {whole} {fallthrough} {events = events} opened context o arm falls live (passes go) =
      subst (After hir env (leaving opened fallthrough context) whole events) (sym o)
      (leads (falls_to-next opened fallthrough context.next falls) live (λ more end run. go.on more end run))
  value_onward {whole} {fallthrough} {events = events} opened context o arm falls live (cut_short e go) =
      subst (After hir env (leaving opened fallthrough context) whole events) (sym o)
      (leads (falls_to-next opened fallthrough context.next falls) live
      (λ more end run. (past_own_arm arm (cut_short e go) refl).on more end run))
