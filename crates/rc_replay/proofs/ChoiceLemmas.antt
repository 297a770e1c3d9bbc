-- The choices of a switch's position are the edges from the switch.
use Rattle.std.proofs.Common.{◌≡◌, ◌∙◌, ◌++◌, ℕ, Bool, true, false, List, [], ◌∷◌, Option, None, Some, refl, sym, ap, subst}
use Rattle.std.proofs.Common.{map, if◌then◌else◌}
use Rattle.std.specs.List.{list_any}
use Rattle.std.specs.Option.{option_to_list}
use Rattle.rc_names.specs.Numbers.{BlockId}
use Rattle.rc_hir.specs.Model.{Case, HirFunction, Place}
use Rattle.rc_hir.specs.Successors.{ByCase, is_default}
use Rattle.rc_replay.specs.inside.GraphTable.{all_choices, case_choices, number_of, past_choices}
use Rattle.rc_replay.specs.inside.Positions.{Choice, IsChoice, first, later}
use Rattle.rc_runs.specs.Event.{Chose}
use Rattle.rc_runs.specs.GraphRun.{InCases, Move, first as first_case, later as later_case, past_cases, to_case}

choice_left : {choices : List Choice} (more : List Choice) {test : Option Place} {next : ℕ} → IsChoice choices test next
    → IsChoice (choices ++ more) test next
choice_left more first = first
choice_left more (later choice) = later (choice_left more choice)

choice_right : (choices : List Choice) {more : List Choice} {test : Option Place} {next : ℕ} → IsChoice more test next
    → IsChoice (choices ++ more) test next
choice_right [] choice = choice
choice_right (other ∷ choices) choice = later (choice_right choices choice)

module _ (hir : HirFunction) where
  case_choice : {case : Case} {cases : List Case} {test : Option Place} {key : BlockId} → InCases case cases
      → test ≡ case.test → key ≡ case.block → IsChoice (case_choices hir cases) test (number_of hir key)
  case_choice {key = key} (first_case {other = other} {cases = cases} same) tests block =
      subst (λ t. IsChoice (case_choices hir (other ∷ cases)) t (number_of hir key)) (sym (tests ∙ ap (λ c. c.test) same))
      (subst (λ k. IsChoice (case_choices hir (other ∷ cases)) other.test (number_of hir k))
      (sym (block ∙ ap (λ c. c.block) same)) first)
  case_choice (later_case found) tests block = later (case_choice found tests block)

  past_choice : (cases : List Case) (fallthrough : BlockId) → list_any is_default cases ≡ false
      → IsChoice (past_choices hir cases fallthrough) None (number_of hir fallthrough)
  past_choice cases fallthrough none = subst (λ b. IsChoice (map (λ key. (None, number_of hir key))
      (option_to_list (if b then None else Some fallthrough))) None (number_of hir fallthrough)) (sym none) first

  -- an edge by a case is a choice
  pub to_case_choice : {case : Case} {cases : List Case} {test : Option Place} {key : BlockId} (fallthrough : BlockId)
      → InCases case cases → test ≡ case.test → key ≡ case.block
      → IsChoice (all_choices hir cases fallthrough) test (number_of hir key)
  to_case_choice {cases = cases} fallthrough found test block =
      choice_left (past_choices hir cases fallthrough) (case_choice found test block)

  -- and so is the edge past all cases
  pub past_cases_choice : (cases : List Case) (fallthrough : BlockId) → list_any is_default cases ≡ false
      → IsChoice (all_choices hir cases fallthrough) None (number_of hir fallthrough)
  past_cases_choice cases fallthrough none =
      choice_right (case_choices hir cases) (past_choice cases fallthrough none)

  -- the edge of a choice
  pub record ChoiceEdge (cases : List Case) (fallthrough : BlockId) (test : Option Place) (next : ℕ) : Type 0 where
    pub key : BlockId
    pub edge : Move (ByCase cases fallthrough) (Chose test ∷ []) key
    pub there : next ≡ number_of hir key

  past_edge : (cases : List Case) (fallthrough : BlockId) (has : Bool) {test : Option Place} {next : ℕ}
      → list_any is_default cases ≡ has → IsChoice (map (λ key. (None, number_of hir key))
      (option_to_list (if has then None else Some fallthrough))) test next → ChoiceEdge cases fallthrough test next
  past_edge cases fallthrough true is choice = elim choice [ ]
  past_edge cases fallthrough false is first = record { key = fallthrough; edge = past_cases is; there = refl }
  past_edge cases fallthrough false is (later choice) = elim choice [ ]

  edge_from : (cases : List Case) (fallthrough : BlockId) (rest : List Case) {test : Option Place} {next : ℕ}
      → ((case : Case) → InCases case rest → InCases case cases)
      → IsChoice (case_choices hir rest ++ past_choices hir cases fallthrough) test next
      → ChoiceEdge cases fallthrough test next
  edge_from cases fallthrough [] into choice = past_edge cases fallthrough (list_any is_default cases) refl choice
  edge_from cases fallthrough (case ∷ rest) into first =
      record { key = case.block; edge = to_case (into case (first_case refl)) refl refl; there = refl }
  edge_from cases fallthrough (case ∷ rest) into (later choice) =
      edge_from cases fallthrough rest (λ other found. into other (later_case found)) choice

  -- each choice is an edge
  pub choice_edge : (cases : List Case) (fallthrough : BlockId) {test : Option Place} {next : ℕ}
      → IsChoice (all_choices hir cases fallthrough) test next → ChoiceEdge cases fallthrough test next
  choice_edge cases fallthrough choice = edge_from cases fallthrough cases (λ case found. found) choice
