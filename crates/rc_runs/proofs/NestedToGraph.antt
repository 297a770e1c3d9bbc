-- Each run of a value terminal's value is a run of the graph from the terminal to its fallthrough, or to the alternate
-- of an optional. How the parts of the terminal run in the graph is given.
use Rattle.std.proofs.Common.{◌≡◌, Bool, true, false, List, [], ◌∷◌, ◌++◌, Option, Some, None, refl, sym, subst}
use Rattle.std.proofs.lemmas.List.{append-nil}
use Rattle.rc_names.specs.Numbers.{BlockId, EvaluationOrder}
use Rattle.rc_names.specs.declared.span.Span.{Span}
use Rattle.rc_hir.specs.Model.{Place, LogicalOperator, Terminal, HirFunction, Environment}
use Rattle.rc_hir.specs.declared.terminal.Terminal.TheVariants as terminals
use Rattle.rc_runs.specs.Event.{Event, Arm, End}
use Rattle.rc_runs.specs.Silent.{is_unset}
use Rattle.rc_runs.specs.GraphRun.{Edge, goes_to, then_arm, else_arm}
use Rattle.rc_runs.specs.GraphRun.{GraphRun, stopped, moved, GraphRunAt, arrives}
use Rattle.rc_runs.specs.PlainTree.{Value, Logical, Conditional, Sequence, Optional, NoRows, Row}
use Rattle.rc_runs.specs.ValueEnd.{ValueEnd, GoesTo, ChoosesBetween}
use Rattle.rc_runs.specs.ShortArms.{shares_alternate}
use Rattle.rc_runs.specs.ValueRun.{Progress, Done, Short, Inside, is_done, is_at, settled, RunsValue}
use Rattle.rc_runs.specs.ValueRun.{value_stopped, in_sequence, in_condition, took_consequent, took_alternate, in_left}
use Rattle.rc_runs.specs.ValueRun.{left_decides, took_right, in_optional_test, took_short_end, took_rest}
use Rattle.rc_runs.specs.ValueRun.{in_other_optional, past_rows, past_row, in_row, unset_row, set_row}
use Rattle.rc_runs.proofs.ShortArmLemmas.{past_row_is_past, same_alternate}
use Rattle.rc_runs.proofs.Covers.{Extends, Covers, passes, cut_short, stays, extends_then, and_on, and_stop, out_of_row}
use Rattle.rc_runs.proofs.Covers.{covers_then, covers_on, over_edge}

module _ (hir : HirFunction) (env : Environment) where
  -- each run of a value that leaves that alternate open is one of the graph, from a block to the terminal of another
  abbrev pub CoversValue : Bool → Value → Option BlockId → BlockId → Terminal → Type 0
  CoversValue is_test value left key last = (events : List Event) (progress : Progress) →
      RunsValue env is_test value events progress
      → Covers hir env left (GraphRunAt hir env key) (GraphRun hir env [] last) events progress

  -- each run of a value terminal's value is one of the graph, from the terminal to the fallthrough
  abbrev pub CoversNested : Terminal → Value → Option BlockId → BlockId → Type 0
  CoversNested terminal value short fallthrough = (events : List Event) (progress : Progress) →
      RunsValue env false value events progress
      → Covers hir env short (GraphRun hir env [] terminal) (GraphRunAt hir env fallthrough) events progress

module _ {env : Environment} {consequent alternate : BlockId} {end : ValueEnd} where
  -- a test leads to its consequent, or to its alternate
  to_consequent : ChoosesBetween env consequent alternate end → Edge end.last (Arm true ∷ []) consequent
  to_consequent c = subst (λ t. Edge t (Arm true ∷ []) consequent) (sym c.chooses) then_arm

  to_alternate : ChoosesBetween env consequent alternate end → Edge end.last (Arm false ∷ []) alternate
  to_alternate c = subst (λ t. Edge t (Arm false ∷ []) alternate) (sym c.chooses) else_arm

module _ {hir : HirFunction} {env : Environment} where
  -- over an edge without an event, and on after a part
  by_edge : {terminal : Terminal} {key : BlockId} {behind : List Event → End → Type 0} {events : List Event}
      → Edge terminal [] key → Extends (GraphRunAt hir env key) behind events
      → Extends (GraphRun hir env [] terminal) behind events
  by_edge edge go = extends_then (over_edge edge) go refl

  past_done : {left : Option BlockId} {whole behind : List Event → End → Type 0} {events : List Event}
      → Covers hir env left whole behind events Done → Extends whole behind events
  past_done (passes go) = go

  -- after a part the graph goes on, up to the fallthrough
  pub to_fallthrough : {whole : List Event → End → Type 0} {next : BlockId} {end : ValueEnd} {events : List Event}
      {progress : Progress} → GoesTo next end
      → Covers hir env None whole (GraphRun hir env [] end.last) events progress
      → Covers hir env None whole (GraphRunAt hir env next) events progress
  to_fallthrough {next = next} goes covered =
      covers_on covered (over_edge (subst (λ t. Edge t [] next) (sym goes.goes) goes_to))

  -- the short end of an arm is its end; there is none
  settle : {left : Option BlockId} {whole behind : List Event → End → Type 0} {events : List Event} {arm : Progress}
      → Covers hir env None whole behind events arm → Covers hir env left whole behind events (settled arm)
  settle (passes go) = passes go
  settle (cut_short e go) = absurd (let bad : ⊥ = cc in bad)
  settle (stays stop) = stays stop

  -- an arm that a test chooses, up to the fallthrough
  arm_covered : {left : Option BlockId} {last : Terminal} {step events : List Event} {key next : BlockId}
      {end : ValueEnd} {arm progress : Progress} → Edge last step key → GoesTo next end
      → Covers hir env None (GraphRunAt hir env key) (GraphRun hir env [] end.last) events arm → progress ≡ settled arm
      → Covers hir env left (GraphRun hir env [] last) (GraphRunAt hir env next) (step ++ events) progress
  arm_covered {left} {last} {step} {events} {next = next} edge goes covered e =
      subst (Covers hir env left (GraphRun hir env [] last) (GraphRunAt hir env next) (step ++ events)) (sym e)
      (covers_then (over_edge edge) (settle (to_fallthrough goes covered)) refl)

  pub sequence_to_graph : {inner fallthrough : BlockId} {id : EvaluationOrder} {span : Option Span} {value : Value}
      {end : ValueEnd} → GoesTo fallthrough end → CoversValue hir env false value None inner end.last
      → CoversNested hir env (terminals.Sequence inner fallthrough id span) value None fallthrough
  sequence_to_graph goes values events progress run =
      covers_then (over_edge goes_to) (to_fallthrough goes (values events progress run)) refl

  pub ternary_to_graph : {test consequent alternate fallthrough : BlockId} {id : EvaluationOrder} {span : Option Span}
      {condition value other : Value} {condition_end end other_end : ValueEnd}
      → ChoosesBetween env consequent alternate condition_end → GoesTo fallthrough end → GoesTo fallthrough other_end
      → CoversValue hir env false condition None test condition_end.last
      → CoversValue hir env false value None consequent end.last
      → CoversValue hir env false other None alternate other_end.last
      → CoversNested hir env (terminals.Ternary test fallthrough id span) (Conditional condition value other) None
      fallthrough
  ternary_to_graph c goes other_goes tests values others events progress value_stopped = stays stopped
  ternary_to_graph c goes other_goes tests values others events progress (in_condition run) =
      stays (moved goes_to (and_stop (tests _ _ run)) refl)
  ternary_to_graph c goes other_goes tests values others events progress (took_consequent run past arm same e) =
      covers_then (by_edge goes_to (and_on (tests _ _ run) past))
      (arm_covered (to_consequent c) goes (values _ _ arm) same) e
  ternary_to_graph c goes other_goes tests values others events progress (took_alternate run past arm same e) =
      covers_then (by_edge goes_to (and_on (tests _ _ run) past))
      (arm_covered (to_alternate c) other_goes (others _ _ arm) same) e

  -- the left part of a logical: its test, and what a silent arm hands on
  left_covered : {test : BlockId} {last : Terminal} {id own : EvaluationOrder} {answer : Place} {span : Option Span}
      {condition value : Value} → is_unset id ≡ false → CoversValue hir env false condition None test last
      → ((events : List Event) (progress : Progress) → RunsValue env false value events progress
      → Covers hir env None (GraphRun hir env [] last) (GraphRun hir env [] last) events progress)
      → CoversValue hir env false (Sequence (Row id (Some answer) condition span NoRows) own value) None test last
  left_covered set tests waits events progress value_stopped = stays arrives
  left_covered set tests waits events progress (in_sequence (past_row (unset_row u) past rest e)) =
      absurd (let bad : ⊥ = cc in bad)
  left_covered set tests waits events progress (in_sequence (past_row (set_row s one) past (past_rows rest) e)) =
      covers_then (and_on (tests _ _ one) (past_row_is_past false _ past)) (waits _ _ rest) e
  left_covered set tests waits events progress (in_sequence (in_row (unset_row u) out)) =
      absurd (let bad : ⊥ = cc in bad)
  left_covered set tests waits events progress (in_sequence (in_row (set_row s one) out)) =
      out_of_row false (tests _ _ one) out

  -- the left part decides, and the silent arm leads to the fallthrough
  decided : {last : Terminal} {step : List Event} {consequent fallthrough : BlockId} (progress : Progress)
      → Edge last step consequent → Extends (GraphRunAt hir env consequent) (GraphRunAt hir env fallthrough) []
      → is_at Done progress ≡ true
      → Covers hir env None (GraphRun hir env [] last) (GraphRunAt hir env fallthrough) (step ++ []) progress
  decided Done edge arm at = passes (extends_then (over_edge edge) arm refl)
  decided Short edge arm at = absurd (let bad : ⊥ = cc in bad)
  decided Inside edge arm at = stays (moved edge arrives refl)

  pub logical_to_graph : {operator : LogicalOperator} {test consequent alternate fallthrough : BlockId}
      {id own last : EvaluationOrder} {answer : Place} {span around : Option Span} {condition value other : Value}
      {condition_end other_end : ValueEnd} → is_unset own ≡ false
      → ChoosesBetween env consequent alternate condition_end → GoesTo fallthrough other_end
      → Extends (GraphRunAt hir env consequent) (GraphRunAt hir env fallthrough) []
      → CoversValue hir env false condition None test condition_end.last
      → ((events : List Event) (progress : Progress) → RunsValue env false value events progress
      → Covers hir env None (GraphRun hir env [] condition_end.last) (GraphRun hir env [] condition_end.last) events
      progress)
      → CoversValue hir env false other None alternate other_end.last
      → CoversNested hir env (terminals.Logical operator test fallthrough id span)
      (Logical operator (Sequence (Row own (Some answer) condition around NoRows) last value) other) None fallthrough
  logical_to_graph set c goes arm tests waits others events progress value_stopped = stays stopped
  logical_to_graph set c goes arm tests waits others events progress (in_left run) =
      stays (moved goes_to (and_stop (left_covered set tests waits _ _ run)) refl)
  logical_to_graph set c goes arm tests waits others events progress (left_decides run past at e) =
      covers_then (by_edge goes_to (and_on (left_covered set tests waits _ _ run) past))
      (decided progress (to_consequent c) arm at) e
  logical_to_graph set c goes arm tests waits others events progress (took_right run past right same e) =
      covers_then (by_edge goes_to (and_on (left_covered set tests waits _ _ run) past))
      (arm_covered (to_alternate c) goes (others _ _ right) same) e

  -- a test that isn't past is left by the alternate that it leaves open, which is the optional's
  short_of_test : {terminal last : Terminal} {test alternate fallthrough : BlockId} {left : Option BlockId}
      {events : List Event} {progress : Progress} → Edge terminal [] test → shares_alternate left alternate ≡ true
      → is_done progress ≡ false
      → Covers hir env left (GraphRunAt hir env test) (GraphRun hir env [] last) events progress
      → Covers hir env (Some alternate) (GraphRun hir env [] terminal) (GraphRunAt hir env fallthrough) events progress
  short_of_test edge shares inside (passes go) = absurd (let bad : ⊥ = cc in bad)
  short_of_test {test = test} {alternate} {left = left} {events} edge shares inside (cut_short {alternate = own} e go) =
      cut_short refl (by_edge edge
      (subst (λ b. Extends (GraphRunAt hir env test) (GraphRunAt hir env b) events)
      (same_alternate left alternate own shares e) go))
  short_of_test edge shares inside (stays stop) = stays (moved edge stop refl)

  short_end : {last : Terminal} {step : List Event} {alternate fallthrough : BlockId} (progress : Progress)
      → Edge last step alternate → is_at Short progress ≡ true
      → Covers hir env (Some alternate) (GraphRun hir env [] last) (GraphRunAt hir env fallthrough) step progress
  short_end Done edge at = absurd (let bad : ⊥ = cc in bad)
  short_end Short edge at = cut_short refl (over_edge edge)
  short_end {step = step} Inside edge at = stays (moved edge arrives (sym (append-nil step)))

  pub optional_to_graph : {optional : Bool} {test consequent alternate fallthrough : BlockId}
      {id own last : EvaluationOrder} {answer : Place} {span around : Option Span} {condition value : Value}
      {condition_end end : ValueEnd} → is_unset own ≡ false → ChoosesBetween env consequent alternate condition_end
      → shares_alternate condition_end.left_open alternate ≡ true → GoesTo fallthrough end
      → CoversValue hir env true condition condition_end.left_open test condition_end.last
      → CoversValue hir env false value None consequent end.last
      → CoversNested hir env (terminals.Optional optional test fallthrough id span)
      (Optional (Sequence (Row own (Some answer) condition around NoRows) last value) optional) (Some alternate)
      fallthrough
  optional_to_graph set c shares goes tests values events progress value_stopped = stays stopped
  optional_to_graph set c shares goes tests values events progress (in_optional_test (unset_row u) inside) =
      absurd (let bad : ⊥ = cc in bad)
  optional_to_graph set c shares goes tests values events progress (in_optional_test (set_row s one) inside) =
      short_of_test goes_to shares inside (tests _ _ one)
  optional_to_graph set c shares goes tests values events progress (took_short_end (unset_row u) at e) =
      absurd (let bad : ⊥ = cc in bad)
  optional_to_graph set c shares goes tests values events progress (took_short_end (set_row s one) at e) =
      covers_then (by_edge goes_to (past_done (tests _ _ one))) (short_end progress (to_alternate c) at) e
  optional_to_graph set c shares goes tests values events progress (took_rest (unset_row u) rest same e) =
      absurd (let bad : ⊥ = cc in bad)
  optional_to_graph set c shares goes tests values events progress (took_rest (set_row s one) rest same e) =
      covers_then (by_edge goes_to (past_done (tests _ _ one)))
      (arm_covered (to_consequent c) goes (values _ _ rest) same) e
  optional_to_graph set c shares goes tests values events progress (in_other_optional other run same) =
      absurd (let bad : ⊥ = cc in bad)
