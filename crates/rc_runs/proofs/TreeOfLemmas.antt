-- A tree of the program is the tree of at most one plain tree.
--
-- The form of the program's tree is plain data, whose variants are distinct and determine their parts. So two plain
-- trees with the same tree have equal forms, and their parts again have the same tree.
pub mod Layers
use Rattle.std.proofs.Common.{◌≡◌, List, ◌∷◌, Option, Some, None, refl, sym, ap, ◌∙◌, option_map}
use Rattle.rc_tree.specs.Unrolled.{UnrolledStatement, UnrolledCase}
use Rattle.rc_tree.specs.Model.{ReactiveInstruction, ReactiveBlock, ReactiveScopeBlock, PrunedReactiveScopeBlock}
use Rattle.rc_tree.specs.Model.{ReactiveTerminalStatement}
use Rattle.rc_tree.specs.declared.statement.ReactiveStatement.TheOpen as layers
use Rattle.rc_tree.specs.declared.terminal.ReactiveSwitchCase.{out-ReactiveSwitchCase, roll-ReactiveSwitchCase}
use Rattle.rc_tree.specs.declared.terminal.ReactiveSwitchCase.{out-roll-ReactiveSwitchCase}
use Rattle.rc_hir.specs.Model.{Place}
use Rattle.rc_runs.specs.PlainTree.{Value, Base, Logical, Conditional, Sequence, Optional, Rows, NoRows, Row}
use Rattle.rc_runs.specs.PlainTree.{Statements, Nil, Cons, Statement, RowStatement, TerminalStatement, ScopeStatement}
use Rattle.rc_runs.specs.PlainTree.{PrunedScopeStatement, TreeTerminal, Break, Continue, Return, Throw, Switch}
use Rattle.rc_runs.specs.PlainTree.{DoWhile, While, For, ForOf, ForIn, If, Label, Try, Alternate, Absent, Present}
use Rattle.rc_runs.specs.PlainTree.{Cases, NoCases, Case}
use Rattle.rc_runs.specs.TreeOf.{value_of, instructions_of, statements_of, alternate_of, cases_of, block_of}
use Rattle.rc_runs.proofs.TreeOfLemmas.Layers.{value_layer, statement_layer, terminal_layer, same_value_layer}
use Rattle.rc_runs.proofs.TreeOfLemmas.Layers.{same_statement_layer, same_terminal_layer}

first_same : {A : Type 0} (x y : A) (xs ys : List A) → x ∷ xs ≡ y ∷ ys → x ≡ y
first_same x y xs ys e = cc

-- the parts of equal rows
abbrev RowParts : ReactiveInstruction → ReactiveInstruction → Type 0
RowParts a b = (a.id ≡ b.id) × (a.lvalue ≡ b.lvalue) × (a.value ≡ b.value) × (a.span ≡ b.span)

row_parts : (a b : ReactiveInstruction) → a ≡ b → RowParts a b
row_parts a b e = (
  ap (λ (row : ReactiveInstruction). row.id) e,
  ap (λ (row : ReactiveInstruction). row.lvalue) e,
  ap (λ (row : ReactiveInstruction). row.value) e,
  ap (λ (row : ReactiveInstruction). row.span) e,
)

mutual
  value_layer-injective : (a b : Value) → value_layer a ≡ value_layer b → a ≡ b
  value_layer-injective (Base value) (Base value') e = cc
  value_layer-injective (Logical o l r) (Logical o' l' r') e =
      let left : l ≡ l' = value_layer-injective l l' (same_value_layer l l' (cc)) in
      let right : r ≡ r' = value_layer-injective r r' (same_value_layer r r' (cc)) in
      cc
  value_layer-injective (Conditional t c a) (Conditional t' c' a') e =
      let test : t ≡ t' = value_layer-injective t t' (same_value_layer t t' (cc)) in
      let consequent : c ≡ c' = value_layer-injective c c' (same_value_layer c c' (cc)) in
      let alternate : a ≡ a' = value_layer-injective a a' (same_value_layer a a' (cc)) in
      cc
  value_layer-injective (Sequence rows id value) (Sequence rows' id' value') e =
      let before : rows ≡ rows' = instructions_of-injective rows rows' (cc) in
      let last : value ≡ value' = value_layer-injective value value' (same_value_layer value value' (cc)) in
      cc
  value_layer-injective (Optional value optional) (Optional value' optional') e =
      let inner : value ≡ value' = value_layer-injective value value' (same_value_layer value value' (cc)) in
      cc
  value_layer-injective a b e = absurd (let bad : ⊥ = cc in bad)

  instructions_of-injective : (a b : Rows) → instructions_of a ≡ instructions_of b → a ≡ b
  instructions_of-injective NoRows NoRows e = refl
  instructions_of-injective (Row id target value span rest) (Row id' target' value' span' rest') e =
      let parts = row_parts _ _ (first_same _ _ _ _ e) in
      let computed : value ≡ value' = value_layer-injective value value' (same_value_layer value value' parts.2) in
      let more : rest ≡ rest' = instructions_of-injective rest rest' (cc) in
      cc
  instructions_of-injective a b e = absurd (let bad : ⊥ = cc in bad)

pub value_of-injective : (a b : Value) → value_of a ≡ value_of b → a ≡ b
value_of-injective a b e = value_layer-injective a b (same_value_layer a b e)

option_value-injective : (a b : Option Value) → option_map value_of a ≡ option_map value_of b → a ≡ b
option_value-injective None None e = refl
option_value-injective (Some a) (Some b) e = ap Some (value_of-injective a b (cc))
option_value-injective a b e = absurd (let bad : ⊥ = cc in bad)

-- the parts of equal blocks and cases
block_part : (a b : ReactiveBlock) → a ≡ b → a.statements ≡ b.statements
block_part a b e = ap (λ (block : ReactiveBlock). block.statements) e

case_parts : (test test' : Option Place) (body body' : Option ReactiveBlock) →
    roll-ReactiveSwitchCase (record { test = test; block = body })
    ≡ roll-ReactiveSwitchCase (record { test = test'; block = body' }) →
    (test ≡ test') × (body ≡ body')
case_parts test test' body body' e =
    let same = sym (out-roll-ReactiveSwitchCase _) ∙ (ap out-ReactiveSwitchCase e ∙ out-roll-ReactiveSwitchCase _) in
    (ap (λ (c : UnrolledCase). c.test) same, ap (λ (c : UnrolledCase). c.block) same)

-- the parts of statements with equal forms
abbrev row_of : ReactiveInstruction → UnrolledStatement
row_of row = layers.Instruction row

abbrev terminal_statement_of : ReactiveTerminalStatement → UnrolledStatement
terminal_statement_of statement = layers.Terminal statement

abbrev scope_of : ReactiveScopeBlock → UnrolledStatement
scope_of scope = layers.Scope scope

abbrev pruned_scope_of : PrunedReactiveScopeBlock → UnrolledStatement
pruned_scope_of scope = layers.PrunedScope scope

row_statement_parts : (a b : ReactiveInstruction) → row_of a ≡ row_of b → RowParts a b
row_statement_parts a b e = row_parts a b (cc)

terminal_statement_parts : (a b : ReactiveTerminalStatement) → terminal_statement_of a ≡ terminal_statement_of b →
    (a.terminal ≡ b.terminal) × (a.label ≡ b.label)
terminal_statement_parts a b e =
    let same : a ≡ b = cc in
    (ap (λ (t : ReactiveTerminalStatement). t.terminal) same, ap (λ (t : ReactiveTerminalStatement). t.label) same)

scope_parts : (a b : ReactiveScopeBlock) → scope_of a ≡ scope_of b → (a.scope ≡ b.scope)
    × (a.instructions.statements ≡ b.instructions.statements)
scope_parts a b e =
    let same : a ≡ b = cc in
    (ap (λ (s : ReactiveScopeBlock). s.scope) same, ap (λ (s : ReactiveScopeBlock). s.instructions.statements) same)

pruned_scope_parts : (a b : PrunedReactiveScopeBlock) → pruned_scope_of a ≡ pruned_scope_of b →
    (a.scope ≡ b.scope) × (a.instructions.statements ≡ b.instructions.statements)
pruned_scope_parts a b e =
    let same : a ≡ b = cc in (
      ap (λ (s : PrunedReactiveScopeBlock). s.scope) same,
      ap
          (λ (s : PrunedReactiveScopeBlock). s.instructions.statements) same,
    )

mutual
  pub statements_of-injective : (a b : Statements) → statements_of a ≡ statements_of b → a ≡ b
  statements_of-injective Nil Nil e = refl
  statements_of-injective (Cons statement rest) (Cons statement' rest') e =
      let first : statement ≡ statement' = statement_layer-injective statement statement'
      (same_statement_layer statement statement' (first_same _ _ _ _ e)) in
      let more : rest ≡ rest' = statements_of-injective rest rest' (cc) in
      cc
  statements_of-injective a b e = absurd (let bad : ⊥ = cc in bad)

  statement_layer-injective : (a b : Statement) → statement_layer a ≡ statement_layer b → a ≡ b
  statement_layer-injective (RowStatement id target value span) (RowStatement id' target' value' span') e =
      let parts = row_statement_parts _ _ e in
      let computed : value ≡ value' = value_of-injective value value' parts.2 in
      cc
  statement_layer-injective (TerminalStatement terminal label) (TerminalStatement terminal' label') e =
      let parts = terminal_statement_parts _ _ e in
      let same : terminal ≡ terminal' = terminal_layer-injective terminal terminal'
      (same_terminal_layer terminal terminal' parts.0) in
      cc
  statement_layer-injective (ScopeStatement scope body) (ScopeStatement scope' body') e =
      let parts = scope_parts _ _ e in
      let inner : body ≡ body' = statements_of-injective body body' parts.1 in
      cc
  statement_layer-injective (PrunedScopeStatement scope body) (PrunedScopeStatement scope' body') e =
      let parts = pruned_scope_parts _ _ e in
      let inner : body ≡ body' = statements_of-injective body body' parts.1 in
      cc
  statement_layer-injective a b e = absurd (let bad : ⊥ = cc in bad)

  terminal_layer-injective : (a b : TreeTerminal) → terminal_layer a ≡ terminal_layer b → a ≡ b
  terminal_layer-injective (Break target kind id) (Break target' kind' id') e = cc
  terminal_layer-injective (Continue target kind id) (Continue target' kind' id') e = cc
  terminal_layer-injective (Return value id) (Return value' id') e = cc
  terminal_layer-injective (Throw value id) (Throw value' id') e = cc
  terminal_layer-injective (Switch test cases id) (Switch test' cases' id') e =
      let same : cases ≡ cases' = cases_of-injective cases cases' (cc) in
      cc
  terminal_layer-injective (DoWhile body test id) (DoWhile body' test' id') e =
      let inner : body ≡ body' = statements_of-injective body body' (block_part (block_of body) (block_of body') (cc))
      in
      let tested : test ≡ test' = value_of-injective test test' (cc) in
      cc
  terminal_layer-injective (While test body id) (While test' body' id') e =
      let inner : body ≡ body' = statements_of-injective body body' (block_part (block_of body) (block_of body') (cc))
      in
      let tested : test ≡ test' = value_of-injective test test' (cc) in
      cc
  terminal_layer-injective (For init test update body id) (For init' test' update' body' id') e =
      let inner : body ≡ body' = statements_of-injective body body' (block_part (block_of body) (block_of body') (cc))
      in
      let first : init ≡ init' = value_of-injective init init' (cc) in
      let tested : test ≡ test' = value_of-injective test test' (cc) in
      let updated : update ≡ update' = option_value-injective update update' (cc) in
      cc
  terminal_layer-injective (ForOf init test body span id) (ForOf init' test' body' span' id') e =
      let inner : body ≡ body' = statements_of-injective body body' (block_part (block_of body) (block_of body') (cc))
      in
      let first : init ≡ init' = value_of-injective init init' (cc) in
      let tested : test ≡ test' = value_of-injective test test' (cc) in
      cc
  terminal_layer-injective (ForIn init body span id) (ForIn init' body' span' id') e =
      let inner : body ≡ body' = statements_of-injective body body' (block_part (block_of body) (block_of body') (cc))
      in
      let first : init ≡ init' = value_of-injective init init' (cc) in
      cc
  terminal_layer-injective (If test consequent alternate id) (If test' consequent' alternate' id') e =
      let taken : consequent ≡ consequent' = statements_of-injective consequent consequent'
      (block_part (block_of consequent) (block_of consequent') (cc)) in
      let other : alternate ≡ alternate' = alternate_of-injective alternate alternate' (cc) in
      cc
  terminal_layer-injective (Label body id) (Label body' id') e =
      let inner : body ≡ body' = statements_of-injective body body' (block_part (block_of body) (block_of body') (cc))
      in
      cc
  terminal_layer-injective (Try body binding handler id) (Try body' binding' handler' id') e =
      let inner : body ≡ body' = statements_of-injective body body' (block_part (block_of body) (block_of body') (cc))
      in
      let caught : handler ≡ handler' = statements_of-injective handler handler'
      (block_part (block_of handler) (block_of handler') (cc)) in
      cc
  terminal_layer-injective a b e = absurd (let bad : ⊥ = cc in bad)

  alternate_of-injective : (a b : Alternate) → alternate_of a ≡ alternate_of b → a ≡ b
  alternate_of-injective Absent Absent e = refl
  alternate_of-injective (Present body) (Present body') e =
      ap Present (statements_of-injective body body' (block_part (block_of body) (block_of body') (cc)))
  alternate_of-injective a b e = absurd (let bad : ⊥ = cc in bad)

  cases_of-injective : (a b : Cases) → cases_of a ≡ cases_of b → a ≡ b
  cases_of-injective NoCases NoCases e = refl
  cases_of-injective (Case test body rest) (Case test' body' rest') e =
      let parts = case_parts test test' (alternate_of body) (alternate_of body') (first_same _ _ _ _ e) in
      let inner : body ≡ body' = alternate_of-injective body body' parts.1 in
      let more : rest ≡ rest' = cases_of-injective rest rest' (cc) in
      cc
  cases_of-injective a b e = absurd (let bad : ⊥ = cc in bad)

pub block_of-injective : (a b : Statements) → block_of a ≡ block_of b → a ≡ b
block_of-injective a b e = statements_of-injective a b (block_part (block_of a) (block_of b) e)
