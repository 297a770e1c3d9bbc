-- Lists of plain statements: a list of one statement, and one list after another.
use Rattle.std.proofs.Common.{◌≡◌, ◌∷◌, ◌++◌, Option, refl, ap}
use Rattle.rc_tree.specs.Model.{ReactiveLabel}
use Rattle.rc_runs.specs.PlainTree.{Statements, Nil, Cons, Statement, TerminalStatement, TreeTerminal}
use Rattle.rc_runs.specs.TreeOf.{statement_of, statements_of}

-- a list of one statement
abbrev pub alone : Statement → Statements
alone statement = Cons statement Nil

-- a terminal with its label, as a list
abbrev pub labeled : TreeTerminal → Option ReactiveLabel → Statements
labeled terminal label = alone (TerminalStatement terminal label)

-- one list, then the other
abbrev pub append : Statements → Statements → Statements
append Nil behind = behind
append (Cons statement rest) behind = Cons statement (append rest behind)

-- the tree of two lists is the tree of the first, and then that of the second
pub statements_of-append : (front behind : Statements) →
    statements_of (append front behind) ≡ statements_of front ++ statements_of behind
statements_of-append Nil behind = refl
statements_of-append (Cons statement rest) behind =
    ap (λ more. statement_of statement ∷ more) (statements_of-append rest behind)
