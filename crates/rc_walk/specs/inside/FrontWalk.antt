-- Statements that are walked in their places, up to the first one whose replacement isn't one statement.
--
-- A call that walks a statement returns whether its replacement is one statement. If so it is in the statement's place,
-- and otherwise it is put at the end of the statements that are done.
use Rattle.std.specs.Prelude.{◌≡◌, ◌⊎◌, ◌+◌, ℕ, Bool, List, ◌++◌, Result, Ok, Err, drop, take}
use Rattle.rc_hir.specs.Model.{Fault, HirFunction}
use Rattle.rc_tree.specs.Fuel.{Fueled, OutOfFuel, FueledWalk, in_turn}
use Rattle.rc_tree.specs.Model.{ReactiveBlock, ReactiveStatement}
use Rattle.rc_tree.specs.Rewrite.{into_at, statements_at}
use Rattle.rc_tree.specs.RewriteSteps.{RewriteSteps}
use Rattle.rc_walk.specs.Statements.{TreeStatements, added_if}

-- the call's success or fault, and the statements that are done, followed by the replacement
abbrev pub without_answer : Result Bool Fault → Result (Unit {0}) Fault
without_answer (Ok stays) = Ok tt
without_answer (Err fault) = Err fault

abbrev pub with_replacement : Result Bool Fault → TreeStatements → ReactiveStatement → TreeStatements
with_replacement (Ok stays) done x = done ++ added_if stays x
with_replacement (Err fault) done x = done

-- the first computation goes on as the second one, unless its fuel is used up
abbrev pub GoesOn : {A : Type 0} → Fueled A → Fueled A → Type 0
GoesOn whole left = (whole ≡ OutOfFuel) ⊎ (whole ≡ left)

-- the walk of all statements goes on after a place: those in front of it, and the replacement of the one there, are
-- done
abbrev pub GoesOnBehind : {T S : Type 0} → RewriteSteps (T × S) → (T → List HirFunction)
    → FueledWalk (T × S) ReactiveBlock → T × S → TreeStatements → ℕ → T × S → TreeStatements → TreeStatements → Type 0
GoesOnBehind v functions inner w all place w1 now replacement =
    GoesOn (statements_at v functions inner w all)
    (in_turn (into_at v functions inner) w1 (take place now ++ replacement) (drop (place + 1) now))
