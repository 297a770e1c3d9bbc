-- How the scopes of the scope blocks of a tree are found, one part after the other.
use Rattle.std.proofs.Common.{◌≡◌, ◌∙◌, ℕ, ◌+◌, ◌<◌, List, ◌∷◌, ◌++◌, length, drop, get_or, append_assoc, sym, ap}
use Rattle.std.proofs.lemmas.List.{append-nil, drop_more}
use Rattle.rc_names.specs.Numbers.{EvaluationOrder, ScopeId}
use Rattle.rc_tree.proofs.CollectedLemmas.{collected-case, collected_forms}
use Rattle.rc_tree.specs.Collected.{collected_case, collected_cases, collected_if}
use Rattle.rc_tree.specs.ScopesIn.{scope_parts as parts}
use Rattle.rc_tree.specs.declared.statement.ReactiveStatement.TheViews.{out-ReactiveSwitchCase}
use Rattle.rc_tree.specs.declared.statement.ReactiveStatement.TheViews.{roll-out-ReactiveSwitchCase}
use Rattle.rc_tree.specs.Model.{ReactiveSwitchCase}

-- the scopes of one part are added, and then those of another
pub added : (old middle new first second whole : List ScopeId) → middle ≡ old ++ first → whole ≡ first ++ second
    → new ≡ middle ++ second → new ≡ old ++ whole
added old middle new first second whole one same other =
    other ∙ ap (λ found. found ++ second) one ∙ append_assoc old first second ∙ ap (λ found. old ++ found) (sym same)

-- the scopes of the next case are added
pub added-case : (found new all : List ScopeId) (cases : List ReactiveSwitchCase) (place : ℕ)
    (case : ReactiveSwitchCase) (id : EvaluationOrder) → place < length cases → case ≡ get_or cases place case
    → new ≡ found ++ collected_if parts (out-ReactiveSwitchCase case).block
    → found ++ collected_cases parts id (drop place cases) ≡ all
    → new ++ collected_cases parts id (drop (place + 1) cases) ≡ all
added-case found new all cases place case id below at here so_far =
    let inner = collected_if parts (out-ReactiveSwitchCase case).block in
    let rest = collected_cases parts id (drop (place + 1) cases) in
    let next : drop place cases ≡ case ∷ drop (place + 1) cases =
    drop_more cases place case below ∙ ap (λ x. x ∷ drop (place + 1) cases) (sym at)
    in
    let held : collected_case parts case id ≡ inner =
    ap (λ x. collected_case parts x id) (sym (roll-out-ReactiveSwitchCase case))
    ∙ collected-case parts (out-ReactiveSwitchCase case).test (out-ReactiveSwitchCase case).block id
    in
    let whole : collected_cases parts id (drop place cases) ≡ inner ++ rest =
    ap (collected_cases parts id) next ∙ ap (λ it. it ++ rest) held
    in
    ap (λ scopes. scopes ++ rest) here ∙ append_assoc found inner rest ∙ ap (λ scopes. found ++ scopes) (sym whole)
    ∙ so_far

-- with these `search` follows the scope blocks through the forms of a tree
pub ruleset holding = (collected_forms, append-nil)
