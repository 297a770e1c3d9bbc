-- A run of a row or of a value as runs of the graph, up to what is after that part, or to the alternate that it leaves
-- open.
use Rattle.std.proofs.Common.{◌≡◌, true, false, Bool, List, [], ◌∷◌, ◌++◌, ◌||◌, Option, Some, None, refl, sym, ap}
use Rattle.std.proofs.Common.{◌∙◌, subst, append_assoc}
use Rattle.std.proofs.lemmas.List.{append-nil}
use Rattle.rc_names.specs.Numbers.{BlockId, EvaluationOrder}
use Rattle.rc_names.specs.declared.span.Span.{Span}
use Rattle.rc_hir.specs.Model.{Terminal, Instruction, HirFunction, Environment}
use Rattle.rc_hir.specs.declared.terminal.Terminal.TheVariants as terminals
use Rattle.rc_runs.specs.Event.{Event, End, Open}
use Rattle.rc_runs.specs.Silent.{is_silent_value}
use Rattle.rc_runs.specs.GraphRun.{Edge, goes_on, GraphRun, GraphRunAt, stopped, quiet, did, moved}
use Rattle.rc_runs.specs.PlainTree.{Base}
use Rattle.rc_runs.specs.ValueRun.{Progress, Done, Short, Inside, goes_past, goes_past_row, value_stopped, quiet_value}
use Rattle.rc_runs.specs.ValueRun.{did_value, did_and_stopped, RunsRow, unset_row, set_row}

-- any run of what is after the part continues the run of the part
pub record Extends (whole behind : List Event → End → Type 0) (events : List Event) : Type 0 where
  pub on : (more : List Event) (end : End) → behind more end → whole (events ++ more) end

-- past the part, a run goes on after it; past its short end, from the alternate that it leaves open; inside the part,
-- it stops
pub data Covers (hir : HirFunction) (env : Environment) (left : Option BlockId)
    (whole behind : List Event → End → Type 0) (events : List Event) : Progress → Type 0 where
  passes : Extends whole behind events → Covers hir env left whole behind events Done
  cut_short : {alternate : BlockId} → left ≡ Some alternate → Extends whole (GraphRunAt hir env alternate) events →
      Covers hir env left whole behind events Short
  stays : whole events Open → Covers hir env left whole behind events Inside

-- one part, and then another
pub extends_then : {whole middle behind : List Event → End → Type 0} {first second events : List Event}
    → Extends whole middle first → Extends middle behind second → events ≡ first ++ second
    → Extends whole behind events
extends_then {whole} {first = first} {second} one other e = record {
  on = λ more end run.
      let regrouped = sym (append_assoc first second more) ∙ ap (λ l. l ++ more) (sym e) in
      subst (λ l. whole l end) regrouped (one.on (second ++ more) end (other.on more end run));
}

module _ {hir : HirFunction} {env : Environment} {whole behind : List Event → End → Type 0} {events : List Event} where
  -- past a part that leaves no alternate open
  pub and_on : {progress : Progress} → Covers hir env None whole behind events progress → goes_past progress ≡ true
      → Extends whole behind events
  and_on (passes go) past = go
  and_on (cut_short e go) past = absurd (let bad : ⊥ = cc in bad)
  and_on (stays stop) past = absurd (let bad : ⊥ = cc in bad)

  -- stopped inside the part
  pub and_stop : {left : Option BlockId} → Covers hir env left whole behind events Inside → whole events Open
  and_stop (stays stop) = stop

  -- out of the rows of a sequence inside the part, whatever is after the rows
  pub out_of_row : {middle : List Event → End → Type 0} {left : Option BlockId} {progress : Progress}
      (is_last : Bool) → Covers hir env left whole middle events progress → goes_past_row is_last progress ≡ false
      → Covers hir env left whole behind events progress
  out_of_row true (passes go) out = absurd (let bad : ⊥ = cc in bad)
  out_of_row false (passes go) out = absurd (let bad : ⊥ = cc in bad)
  out_of_row is_last (cut_short e go) out = cut_short e go
  out_of_row is_last (stays stop) out = stays stop

module _ {hir : HirFunction} {env : Environment} {left : Option BlockId} where
  -- one part, and then another
  pub covers_then : {whole middle behind : List Event → End → Type 0} {first second events : List Event}
      {progress : Progress} → Extends whole middle first → Covers hir env left middle behind second progress
      → events ≡ first ++ second → Covers hir env left whole behind events progress
  covers_then one (passes go) e = passes (extends_then one go e)
  covers_then one (cut_short left_to go) e = cut_short left_to (extends_then one go e)
  covers_then {whole} {first = first} {second} one (stays stop) e =
      stays (subst (λ l. whole l Open) (sym e) (one.on second Open stop))

  -- one part, and then a step without an event
  pub covers_on : {whole middle behind : List Event → End → Type 0} {events : List Event} {progress : Progress}
      → Covers hir env left whole middle events progress → Extends middle behind []
      → Covers hir env left whole behind events progress
  covers_on {events = events} (passes go) step = passes (extends_then go step (sym (append-nil events)))
  covers_on (cut_short e go) step = cut_short e go
  covers_on (stays stop) step = stays stop

  -- a row, up to the rows after it
  pub row_covered : {is_test : Bool} {rows : List Instruction} {terminal : Terminal} {events : List Event}
      {progress : Progress} (row : Instruction) → RunsRow env is_test row.id (Base row.value) events progress
      → Covers hir env left (GraphRun hir env (row ∷ rows) terminal) (GraphRun hir env rows terminal) events progress
  row_covered row (unset_row u) =
      passes (record { on = λ more end run. quiet (ap (λ unset. unset || is_silent_value env row.value) u) run })
  row_covered row (set_row s value_stopped) = stays stopped
  row_covered row (set_row s (quiet_value h)) =
      passes (record { on = λ more end run. quiet (ap (λ unset. unset || is_silent_value env row.value) s ∙ h) run })
  row_covered row (set_row s (did_value h)) =
      passes (record { on = λ more end run. did (ap (λ unset. unset || is_silent_value env row.value) s ∙ h) run })
  row_covered row (set_row s (did_and_stopped h)) =
      stays (did (ap (λ unset. unset || is_silent_value env row.value) s ∙ h) stopped)

module _ {hir : HirFunction} {env : Environment} {terminal : Terminal} {step : List Event} {key : BlockId} where
  -- over an edge of the graph
  pub over_edge : Edge terminal step key → Extends (GraphRun hir env [] terminal) (GraphRunAt hir env key) step
  over_edge edge = record { on = λ more end run. moved edge run refl }

-- over the edge of a block that may throw to its continuation
pub over_throw : {hir : HirFunction} {env : Environment} {terminal : Terminal} {continuation : BlockId}
    {named : Option BlockId} {id : EvaluationOrder} {span : Option Span}
    → terminal ≡ terminals.MaybeThrow continuation named id span
    → Extends (GraphRun hir env [] terminal) (GraphRunAt hir env continuation) []
over_throw {continuation = key} same = over_edge (subst (λ t. Edge t [] key) (sym same) goes_on)
