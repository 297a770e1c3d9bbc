-- The list that a group on its way stands for, and scopes that are put into their places.
use Rattle.std.proofs.Common.{◌≡◌, ◌∙◌, ℕ, zero, suc, List, [], ◌∷◌, ◌++◌, Option, None, Some, true, refl, sym}
use Rattle.std.proofs.Common.{ap, append_assoc, slice_get}
use Rattle.std.proofs.lemmas.List.{append-nil, map-append}
use Rattle.std.specs.Option.{option_map_or}
use Rattle.std.specs.Prelude.{slice_set}
use Rattle.rc_hir.specs.Model.{ReactiveScope}
use Rattle.rc_names.specs.Numbers.{DeclarationId, ScopeId, to_id}
use Rattle.rc_merge.proofs.GroupsHold.{own_at}
use Rattle.rc_merge.specs.MergedList.{Rest, met_block, passed_over, pulled_of}
use Rattle.rc_merge.specs.Places.{NumberedScope, no_scope}
use Rattle.rc_merge.specs.inside.ListSteps.{Open, block_of, closed}
use Rattle.rc_merge.specs.inside.ListSteps.{row_statements}
use Rattle.rc_tree.specs.Model.{ReactiveInstruction, ReactiveScopeBlock, ReactiveStatement}
use Rattle.rc_tree.specs.declared.statement.ReactiveStatement.TheVariants as reactive

-- putting values into places of a list

pub set_again : {X : Type 0} (xs : List X) (k : ℕ) (v w : X) → slice_set (slice_set xs k v) k w ≡ slice_set xs k w
set_again [] k v w = refl
set_again (x ∷ xs) zero v w = refl
set_again (x ∷ xs) (suc k) v w = ap (λ ys. x ∷ ys) (set_again xs k v w)

pub set_own : (xs : List ReactiveScope) (k : ℕ)
    → slice_set xs k (option_map_or (λ scope. scope) (slice_get xs k) no_scope) ≡ xs
set_own [] k = refl
set_own (x ∷ xs) zero = refl
set_own (x ∷ xs) (suc k) = ap (λ ys. x ∷ ys) (set_own xs k)

set_other : (xs : List ReactiveScope) (k n : ℕ) (v : ReactiveScope) → (n ≡ k → ⊥)
    → slice_get (slice_set xs k v) n ≡ slice_get xs n
set_other [] k n v apart = refl
set_other (x ∷ xs) zero zero v apart = absurd (apart refl)
set_other (x ∷ xs) zero (suc n) v apart = refl
set_other (x ∷ xs) (suc k) zero v apart = refl
set_other (x ∷ xs) (suc k) (suc n) v apart = set_other xs k n v (λ e. apart (ap suc e))

pub own_other : (xs : List ReactiveScope) (k n : ScopeId) (v : ReactiveScope) → (n ≡ k → ⊥)
    → own_at (slice_set xs k.0 v) n ≡ own_at xs n
own_other xs k n v apart =
    ap (λ found. option_map_or (λ (scope : ReactiveScope). scope) found no_scope)
    (set_other xs k.0 n.0 v (λ e. apart (ap to_id e)))

-- the statements that are done, the open group, and the merged rest, in one list

abbrev pub whole_open : Open → List ReactiveStatement → Option (List ReactiveStatement) → List ReactiveStatement
    → List ReactiveStatement
whole_open o done None staying =
    done ++ reactive.Scope (block_of o.head.number o.inside) ∷ (row_statements o.rows ++ staying)
whole_open o done (Some pulled) staying =
    done ++ reactive.Scope (block_of o.head.number ((o.inside ++ row_statements o.rows) ++ pulled)) ∷ staying

abbrev pub whole : Option Open → List ReactiveStatement → Rest → List ReactiveStatement
whole None done rest = done ++ rest.staying
whole (Some o) done rest = whole_open o done rest.pulled rest.staying

pub closed_whole : (held : Option Open) (done staying : List ReactiveStatement)
    → closed held done ++ staying ≡ whole held done (record { pulled = None; staying = staying })
closed_whole None done staying = refl
closed_whole (Some o) done staying =
    append_assoc done (reactive.Scope (block_of o.head.number o.inside) ∷ row_statements o.rows) staying

-- a row that waits
pub waits_whole : (o : Open) (names : List DeclarationId) (row : ReactiveInstruction) (done : List ReactiveStatement)
    (rest : Rest)
    → whole_open (record o { rows = o.rows ++ row ∷ []; names = names }) done rest.pulled rest.staying
    ≡ whole (Some o) done (passed_over (reactive.Instruction row) rest.pulled rest.staying)
waits_whole o names row done rest = by rest.pulled
  where
    more : row_statements (o.rows ++ row ∷ []) ≡ row_statements o.rows ++ reactive.Instruction row ∷ []
    more = map-append (λ (r : ReactiveInstruction). reactive.Instruction r) o.rows (row ∷ [])

    by : (pulled : Option (List ReactiveStatement))
        → whole_open (record o { rows = o.rows ++ row ∷ []; names = names }) done pulled rest.staying
        ≡ whole (Some o) done (passed_over (reactive.Instruction row) pulled rest.staying)
    by None = ap (λ l. done ++ reactive.Scope (block_of o.head.number o.inside) ∷ l)
        (ap (λ l. l ++ rest.staying) more
        ∙ append_assoc (row_statements o.rows) (reactive.Instruction row ∷ []) rest.staying)
    by (Some pulled) = ap (λ l. done ++ reactive.Scope (block_of o.head.number l) ∷ rest.staying)
        (ap (λ l. (o.inside ++ l) ++ pulled) more
        ∙ ap (λ l. l ++ pulled) (sym (append_assoc o.inside (row_statements o.rows) (reactive.Instruction row ∷ [])))
        ∙ append_assoc (o.inside ++ row_statements o.rows) (reactive.Instruction row ∷ []) pulled)

-- a block that begins a group
pub begins_whole : (head : NumberedScope) (inside done : List ReactiveStatement) (rest : Rest)
    → whole_open (record { head = head; inside = inside; rows = []; names = [] }) done rest.pulled rest.staying
    ≡ done ++ reactive.Scope (block_of head.number (inside ++ pulled_of rest)) ∷ rest.staying
begins_whole head inside done rest = by rest.pulled
  where
    by : (pulled : Option (List ReactiveStatement))
        → whole_open (record { head = head; inside = inside; rows = []; names = [] }) done pulled rest.staying
        ≡ done ++ reactive.Scope (block_of head.number (inside ++ option_map_or (λ l. l) pulled [])) ∷ rest.staying
    by None = ap (λ l. done ++ reactive.Scope (block_of head.number l) ∷ rest.staying) (sym (append-nil inside))
    by (Some pulled) = ap (λ l. done ++ reactive.Scope (block_of head.number (l ++ pulled)) ∷ rest.staying)
        (append-nil inside)

-- a block that was swallowed, in a group that stays open or is closed
pub swallowed_whole : (o : Open) (block : ReactiveScopeBlock) (done : List ReactiveStatement) (rest : Rest)
    → done ++ reactive.Scope (block_of o.head.number
    (((o.inside ++ row_statements o.rows) ++ block.instructions.statements) ++ pulled_of rest)) ∷ rest.staying
    ≡ whole (Some o) done (met_block true block rest)
swallowed_whole o block done rest =
    ap (λ l. done ++ reactive.Scope (block_of o.head.number l) ∷ rest.staying)
    (append_assoc (o.inside ++ row_statements o.rows) block.instructions.statements (pulled_of rest))
