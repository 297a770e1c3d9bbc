-- What reading a statement with numbers in the places of its blocks and values gives is a statement that has this form.
use Rattle.std.proofs.Common.{◌≡◌, ◌∙◌, ℕ, ◌+◌, List, [], ◌∷◌, ◌++◌, Option, Some, None, refl, sym, ap, subst}
use Rattle.std.specs.Prelude.{length}
use Rattle.std.proofs.lemmas.Option.{option_and_then_some}
use Rattle.rc_names.specs.declared.span.Span.{Span}
use Rattle.rc_names.specs.Numbers.{BlockId, EvaluationOrder}
use Rattle.rc_hir.specs.Model.{Place}
use Rattle.rc_tree.specs.Model.{ReactiveBlock, ReactiveInstruction, ReactiveStatement, ReactiveSwitchCase}
use Rattle.rc_tree.specs.Model.{ReactiveTerminal, ReactiveTerminalTargetKind, ReactiveValue}
use Rattle.rc_tree.specs.declared.statement.ReactiveStatement.{out-ReactiveStatement}
use Rattle.rc_tree.specs.declared.statement.ReactiveStatement.TheVariants as reactive
use Rattle.rc_tree.specs.declared.terminal.ReactiveSwitchCase.{out-roll-ReactiveSwitchCase, roll-ReactiveSwitchCase}
use Rattle.rc_tree.specs.declared.terminal.ReactiveTerminal.{out-ReactiveTerminal}
use Rattle.rc_tree.specs.declared.terminal.ReactiveTerminal.TheVariants as tree
use Rattle.rc_flat.specs.Model.{FlatInstruction, FlatStatement, FlatSwitchCase, FlatTerminal, FlatTerminalStatement}
use Rattle.rc_flat.specs.Model.{FlatScopeBlock, FlatValue}
use Rattle.rc_flat.specs.Values.{nested}
use Rattle.rc_flat.specs.Blocks.{block_if, blocks_in, blocks_in_cases, blocks_in_statement}
use Rattle.rc_flat.specs.Blocks.{blocks_in_terminal, flat_cases, flat_statement, flat_statements, flat_terminal}
use Rattle.rc_flat.specs.Blocks.{flat_value_if, nested_if, number_if, values_in, values_in_statement, values_in_terminal}
use Rattle.rc_flat.specs.inside.Assembly.{Found, case_from, from_last, if_there, row_from, statement_from, take_block}
use Rattle.rc_flat.specs.inside.Assembly.{terminal_from, value_from}
use Rattle.rc_flat.specs.declared.statement.FlatStatement.TheVariants as flat
use Rattle.rc_flat.specs.declared.terminal.FlatTerminal.TheVariants as terminals
use Rattle.rc_flat.proofs.Waiting.{block_takes, blocks_join, more, more_blocks, more_join, more_values, next_of}
use Rattle.rc_flat.proofs.Waiting.{no_blocks, no_values, none_more, some_is, values_join}
use Rattle.rc_flat.proofs.ValuesAssemble.{AreNested, IsRow, IsValue, left_nested, row_is, value_is}

-- ---- parts that may be missing

abbrev pub IsValueIf : Option FlatValue → Found → Option ReactiveValue × Found → Type 0
IsValueIf v w read = (v ≡ flat_value_if read.1.next_value read.0) × (w ≡ more_values read.1 (nested_if read.0))

pub value_if_is : (v : Option FlatValue) (w : Found) (read : Option ReactiveValue × Found) → AreNested w.values
    → if_there value_from v w ≡ Some read → IsValueIf v w read
value_if_is None w read all h = subst (IsValueIf None w) (some_is h) (refl, no_values w)
value_if_is (Some v) w read all h =
    option_and_then_some _ (value_from v w) _ h (λ x e r.
    let is = value_is v w x all e in
    subst (IsValueIf (Some v) w) (some_is r) (ap Some is.0, is.1))

-- what taking the block with this number gives is the block that has it
abbrev pub IsBlock : ℕ → Found → ReactiveBlock × Found → Type 0
IsBlock n w read = (n ≡ read.1.next_block) × (w ≡ more_blocks read.1 (read.0 ∷ []))

pub block_is : (n : ℕ) (w : Found) (read : ReactiveBlock × Found) → take_block n w ≡ Some read → IsBlock n w read
block_is n w read h = block_takes n w read.0 read.1 h

abbrev pub IsBlockIf : Option ℕ → Found → Option ReactiveBlock × Found → Type 0
IsBlockIf n w read = (n ≡ number_if read.1.next_block read.0) × (w ≡ more_blocks read.1 (block_if read.0))

pub block_if_is : (n : Option ℕ) (w : Found) (read : Option ReactiveBlock × Found)
    → if_there take_block n w ≡ Some read → IsBlockIf n w read
block_if_is None w read h = subst (IsBlockIf None w) (some_is h) (refl, no_blocks w)
block_if_is (Some n) w read h =
    option_and_then_some _ (take_block n w) _ h (λ x e r.
    let is = block_is n w x e in
    subst (IsBlockIf (Some n) w) (some_is r) (ap Some is.0, is.1))

-- ---- cases

abbrev pub AreCases : List FlatSwitchCase → Found → List ReactiveSwitchCase × Found → Type 0
AreCases vs w read =
    (vs ≡ flat_cases read.1.next_block read.0) × (w ≡ more_blocks read.1 (blocks_in_cases read.0))

one_case : (v : FlatSwitchCase) (vs : List FlatSwitchCase) (w : Found) (others : List ReactiveSwitchCase × Found)
    (block : Option ReactiveBlock × Found) → AreCases vs w others → IsBlockIf v.block others.1 block
    → AreCases (v ∷ vs) w (roll-ReactiveSwitchCase (record { test = v.test; block = block.0 }) ∷ others.0, block.1)
one_case v vs w others block later is =
    let rolled = out-roll-ReactiveSwitchCase (record { test = v.test; block = block.0 }) in
    let n = block.1.next_block in (
      subst (λ z. v ∷ vs ≡ record { test = z.test; block = number_if n z.block }
          ∷ flat_cases (n + length (block_if z.block)) others.0) (sym rolled)
          (ap (λ z. record { test = v.test; block = z } ∷ vs) is.0
          ∙ ap (λ z. record { test = v.test; block = number_if n block.0 } ∷ z)
          (later.0 ∙ ap (λ z. flat_cases z.next_block others.0) is.1)),
      subst (λ z. w ≡ more_blocks block.1 (block_if z.block ++ blocks_in_cases others.0)) (sym rolled)
          (later.1 ∙ (ap (λ z. more_blocks z (blocks_in_cases others.0)) is.1
          ∙ blocks_join block.1 (block_if block.0) (blocks_in_cases others.0))),
    )

pub cases_are : (vs : List FlatSwitchCase) (w : Found) (read : List ReactiveSwitchCase × Found)
    → from_last case_from vs w ≡ Some read → AreCases vs w read
cases_are [] w read h = subst (AreCases [] w) (some_is h) (refl, no_blocks w)
cases_are (v ∷ vs) w read h =
    option_and_then_some _ (from_last case_from vs w) _ h (λ others e g.
    option_and_then_some _ (case_from v others.1) _ g (λ first d r.
    option_and_then_some _ (if_there take_block v.block others.1) _ d (λ block k q.
    subst (AreCases (v ∷ vs) w) (some_is r)
    (subst (λ z. AreCases (v ∷ vs) w (z.0 ∷ others.0, z.1)) (some_is q)
    (one_case v vs w others block (cases_are vs w others e) (block_if_is v.block others.1 block k))))))

-- ---- terminals

abbrev pub IsTerminal : FlatTerminal → Found → ReactiveTerminal × Found → Type 0
IsTerminal v w read =
    (v ≡ flat_terminal (next_of read.1) (out-ReactiveTerminal read.0))
    × (w ≡ more read.1 (blocks_in_terminal (out-ReactiveTerminal read.0))
    (values_in_terminal (out-ReactiveTerminal read.0)))

is_switch : (test : Place) (cases : List FlatSwitchCase) (id : EvaluationOrder) (w : Found) (x : List ReactiveSwitchCase × Found)
    → AreCases cases w x → IsTerminal (terminals.Switch test cases id) w (tree.Switch test x.0 id, x.1)
is_switch test cases id w x are =
    rw (tree.outs-Switch test x.0 id)
    (rw are.0 refl, are.1 ∙ no_values (more_blocks x.1 (blocks_in_cases x.0)))

is_do_while : (n : ℕ) (test : FlatValue) (id : EvaluationOrder) (w : Found) (x : ReactiveValue × Found) (body : ReactiveBlock × Found)
    → IsValue test w x → IsBlock n x.1 body
    → IsTerminal (terminals.DoWhile n test id) w (tree.DoWhile body.0 x.0 id, body.1)
is_do_while n test id w x body is_x is_body =
    rw (tree.outs-DoWhile body.0 x.0 id)
    (rw (is_body.0, is_x.0, is_body.1) refl, is_x.1 ∙ ap (λ z. more_values z (nested x.0)) is_body.1)

is_while : (n : ℕ) (test : FlatValue) (id : EvaluationOrder) (w : Found) (x : ReactiveValue × Found) (body : ReactiveBlock × Found)
    → IsValue test w x → IsBlock n x.1 body
    → IsTerminal (terminals.While test n id) w (tree.While x.0 body.0 id, body.1)
is_while n test id w x body is_x is_body =
    rw (tree.outs-While x.0 body.0 id)
    (rw (is_body.0, is_x.0, is_body.1) refl, is_x.1 ∙ ap (λ z. more_values z (nested x.0)) is_body.1)

is_for : (init test : FlatValue) (update : Option FlatValue) (n : ℕ) (id : EvaluationOrder) (w : Found)
    (c : Option ReactiveValue × Found) (b : ReactiveValue × Found) (body : ReactiveBlock × Found)
    (a : ReactiveValue × Found) → IsValueIf update w c → IsValue test c.1 b → IsBlock n b.1 body → IsValue init body.1 a
    → IsTerminal (terminals.For init test update n id) w (tree.For a.0 b.0 c.0 body.0 id, a.1)
is_for init test update n id w c b body a is_c is_b is_body is_a =
    rw (tree.outs-For a.0 b.0 c.0 body.0 id) (
      rw (is_a.0, is_b.0, is_c.0, is_body.0, is_b.1, is_body.1, is_a.1) refl,
      is_c.1 ∙ (ap (λ z. more_values z (nested_if c.0))
          (is_b.1 ∙ ap (λ z. more_values z (nested b.0)) (is_body.1 ∙ ap (λ z. more_blocks z (body.0 ∷ [])) is_a.1))
          ∙ (values_join (more a.1 (body.0 ∷ []) (nested a.0)) (nested b.0) (nested_if c.0)
          ∙ values_join (more_blocks a.1 (body.0 ∷ [])) (nested a.0) (nested b.0 ++ nested_if c.0))),
    )

is_for_of : (init test : FlatValue) (n : ℕ) (span : Option Span) (id : EvaluationOrder) (w : Found) (b : ReactiveValue × Found)
    (body : ReactiveBlock × Found) (a : ReactiveValue × Found) → IsValue test w b → IsBlock n b.1 body
    → IsValue init body.1 a
    → IsTerminal (terminals.ForOf init test n span id) w (tree.ForOf a.0 b.0 body.0 span id, a.1)
is_for_of init test n span id w b body a is_b is_body is_a =
    rw (tree.outs-ForOf a.0 b.0 body.0 span id) (
      rw (is_a.0, is_b.0, is_body.0, is_body.1, is_a.1) refl,
      is_b.1 ∙ (ap (λ z. more_values z (nested b.0)) (is_body.1 ∙ ap (λ z. more_blocks z (body.0 ∷ [])) is_a.1)
          ∙ values_join (more_blocks a.1 (body.0 ∷ [])) (nested a.0) (nested b.0)),
    )

is_for_in : (init : FlatValue) (n : ℕ) (span : Option Span) (id : EvaluationOrder) (w : Found) (body : ReactiveBlock × Found)
    (a : ReactiveValue × Found) → IsBlock n w body → IsValue init body.1 a
    → IsTerminal (terminals.ForIn init n span id) w (tree.ForIn a.0 body.0 span id, a.1)
is_for_in init n span id w body a is_body is_a =
    rw (tree.outs-ForIn a.0 body.0 span id)
    (rw (is_a.0, is_body.0, is_a.1) refl, is_body.1 ∙ ap (λ z. more_blocks z (body.0 ∷ [])) is_a.1)

is_if : (test : Place) (n : ℕ) (alternate : Option ℕ) (id : EvaluationOrder) (w : Found) (body : ReactiveBlock × Found)
    (other : Option ReactiveBlock × Found) → IsBlock n w body → IsBlockIf alternate body.1 other
    → IsTerminal (terminals.If test n alternate id) w (tree.If test body.0 other.0 id, other.1)
is_if test n alternate id w body other is_body is_other =
    rw (tree.outs-If test body.0 other.0 id) (
      rw (is_other.0, is_body.0, is_other.1) refl,
      is_body.1 ∙ (ap (λ z. more_blocks z (body.0 ∷ [])) is_other.1
          ∙ (blocks_join other.1 (block_if other.0) (body.0 ∷ [])
          ∙ no_values (more_blocks other.1 (block_if other.0 ++ body.0 ∷ [])))),
    )

is_label : (n : ℕ) (id : EvaluationOrder) (w : Found) (body : ReactiveBlock × Found) → IsBlock n w body
    → IsTerminal (terminals.Label n id) w (tree.Label body.0 id, body.1)
is_label n id w body is =
    rw (tree.outs-Label body.0 id) (rw is.0 refl, is.1 ∙ no_values (more_blocks body.1 (body.0 ∷ [])))

is_try : (n : ℕ) (binding : Option Place) (m : ℕ) (id : EvaluationOrder) (w : Found) (handler body : ReactiveBlock × Found) → IsBlock m w handler
    → IsBlock n handler.1 body
    → IsTerminal (terminals.Try n binding m id) w (tree.Try body.0 binding handler.0 id, body.1)
is_try n binding m id w handler body is_handler is_body =
    rw (tree.outs-Try body.0 binding handler.0 id) (
      rw (is_body.0, is_handler.0, is_body.1) refl,
      is_handler.1 ∙ (ap (λ z. more_blocks z (handler.0 ∷ [])) is_body.1
          ∙ (blocks_join body.1 (body.0 ∷ []) (handler.0 ∷ [])
          ∙ no_values (more_blocks body.1 (body.0 ∷ handler.0 ∷ [])))),
    )

module _ (w : Found) (read : ReactiveTerminal × Found) where
  is_break : (target : BlockId) (kind : ReactiveTerminalTargetKind) (id : EvaluationOrder)
      → IsTerminal (terminals.Break target kind id) w (tree.Break target kind id, w)
  is_break target kind id = rw (tree.outs-Break target kind id) (refl, none_more w)

  is_continue : (target : BlockId) (kind : ReactiveTerminalTargetKind) (id : EvaluationOrder)
      → IsTerminal (terminals.Continue target kind id) w (tree.Continue target kind id, w)
  is_continue target kind id = rw (tree.outs-Continue target kind id) (refl, none_more w)

  is_return : (place : Place) (id : EvaluationOrder) → IsTerminal (terminals.Return place id) w (tree.Return place id, w)
  is_return place id = rw (tree.outs-Return place id) (refl, none_more w)

  is_throw : (place : Place) (id : EvaluationOrder) → IsTerminal (terminals.Throw place id) w (tree.Throw place id, w)
  is_throw place id = rw (tree.outs-Throw place id) (refl, none_more w)

  pub terminal_is : (v : FlatTerminal) → AreNested w.values → terminal_from v w ≡ Some read → IsTerminal v w read
  terminal_is (terminals.Break target kind id) all h =
      subst (IsTerminal (terminals.Break target kind id) w) (some_is h) (is_break target kind id)
  terminal_is (terminals.Continue target kind id) all h =
      subst (IsTerminal (terminals.Continue target kind id) w) (some_is h) (is_continue target kind id)
  terminal_is (terminals.Return place id) all h =
      subst (IsTerminal (terminals.Return place id) w) (some_is h) (is_return place id)
  terminal_is (terminals.Throw place id) all h =
      subst (IsTerminal (terminals.Throw place id) w) (some_is h) (is_throw place id)
  terminal_is (terminals.Switch test cases id) all h =
      option_and_then_some _ (from_last case_from cases w) _ h (λ x e r.
      subst (IsTerminal (terminals.Switch test cases id) w) (some_is r)
      (is_switch test cases id w x (cases_are cases w x e)))
  terminal_is (terminals.DoWhile n test id) all h =
      option_and_then_some _ (value_from test w) _ h (λ x e g.
      option_and_then_some _ (take_block n x.1) _ g (λ body d r.
      subst (IsTerminal (terminals.DoWhile n test id) w) (some_is r)
      (is_do_while n test id w x body (value_is test w x all e) (block_is n x.1 body d))))
  terminal_is (terminals.While test n id) all h =
      option_and_then_some _ (value_from test w) _ h (λ x e g.
      option_and_then_some _ (take_block n x.1) _ g (λ body d r.
      subst (IsTerminal (terminals.While test n id) w) (some_is r)
      (is_while n test id w x body (value_is test w x all e) (block_is n x.1 body d))))
  terminal_is (terminals.For init test update n id) all h =
      option_and_then_some _ (if_there value_from update w) _ h (λ c e g.
      option_and_then_some _ (value_from test c.1) _ g (λ b d m.
      option_and_then_some _ (take_block n b.1) _ m (λ body k p.
      option_and_then_some _ (value_from init body.1) _ p (λ a q r.
      let is_c = value_if_is update w c all e in
      let all_c = left_nested w c.1 (nested_if c.0) is_c.1 all in
      let is_b = value_is test c.1 b all_c d in
      let all_b = left_nested c.1 b.1 (nested b.0) is_b.1 all_c in
      let is_body = block_is n b.1 body k in
      let all_body = subst (λ z. AreNested z.values) is_body.1 all_b in
      subst (IsTerminal (terminals.For init test update n id) w) (some_is r)
      (is_for init test update n id w c b body a is_c is_b is_body (value_is init body.1 a all_body q))))))
  terminal_is (terminals.ForOf init test n span id) all h =
      option_and_then_some _ (value_from test w) _ h (λ b d g.
      option_and_then_some _ (take_block n b.1) _ g (λ body k p.
      option_and_then_some _ (value_from init body.1) _ p (λ a q r.
      let is_b = value_is test w b all d in
      let all_b = left_nested w b.1 (nested b.0) is_b.1 all in
      let is_body = block_is n b.1 body k in
      let all_body = subst (λ z. AreNested z.values) is_body.1 all_b in
      subst (IsTerminal (terminals.ForOf init test n span id) w) (some_is r)
      (is_for_of init test n span id w b body a is_b is_body (value_is init body.1 a all_body q)))))
  terminal_is (terminals.ForIn init n span id) all h =
      option_and_then_some _ (take_block n w) _ h (λ body k g.
      option_and_then_some _ (value_from init body.1) _ g (λ a q r.
      let is_body = block_is n w body k in
      let all_body = subst (λ z. AreNested z.values) is_body.1 all in
      subst (IsTerminal (terminals.ForIn init n span id) w) (some_is r)
      (is_for_in init n span id w body a is_body (value_is init body.1 a all_body q))))
  terminal_is (terminals.If test n alternate id) all h =
      option_and_then_some _ (take_block n w) _ h (λ body k g.
      option_and_then_some _ (if_there take_block alternate body.1) _ g (λ other q r.
      subst (IsTerminal (terminals.If test n alternate id) w) (some_is r)
      (is_if test n alternate id w body other (block_is n w body k) (block_if_is alternate body.1 other q))))
  terminal_is (terminals.Label n id) all h =
      option_and_then_some _ (take_block n w) _ h (λ body k r.
      subst (IsTerminal (terminals.Label n id) w) (some_is r) (is_label n id w body (block_is n w body k)))
  terminal_is (terminals.Try n binding m id) all h =
      option_and_then_some _ (take_block m w) _ h (λ handler k g.
      option_and_then_some _ (take_block n handler.1) _ g (λ body q r.
      subst (IsTerminal (terminals.Try n binding m id) w) (some_is r)
      (is_try n binding m id w handler body (block_is m w handler k) (block_is n handler.1 body q))))

-- ---- statements

abbrev pub IsStatement : FlatStatement → Found → ReactiveStatement × Found → Type 0
IsStatement v w read =
    (v ≡ flat_statement (next_of read.1) (out-ReactiveStatement read.0))
    × (w ≡ more read.1 (blocks_in_statement (out-ReactiveStatement read.0))
    (values_in_statement (out-ReactiveStatement read.0)))

is_row : (v : FlatInstruction) (w : Found) (x : ReactiveInstruction × Found) → IsRow v w x
    → IsStatement (flat.Instruction v) w (reactive.Instruction x.0, x.1)
is_row v w x is =
    rw (reactive.outs-Instruction x.0) (ap flat.Instruction is.0, is.1 ∙ ap (λ z. more_values z (nested x.0.value)) (no_blocks x.1))

is_terminal : (v : FlatTerminalStatement) (w : Found) (t : ReactiveTerminal × Found) → IsTerminal v.terminal w t
    → IsStatement (flat.Terminal v) w (reactive.Terminal (record { terminal = t.0; label = v.label }), t.1)
is_terminal v w t is =
    rw (reactive.outs-Terminal (record { terminal = t.0; label = v.label }))
    (ap (λ z. flat.Terminal (record { terminal = z; label = v.label })) is.0, is.1)

is_scope : (v : FlatScopeBlock) (w : Found) (body : ReactiveBlock × Found) → IsBlock v.instructions w body
    → IsStatement (flat.Scope v) w (reactive.Scope (record { scope = v.scope; instructions = body.0 }), body.1)
is_scope v w body is =
    rw (reactive.outs-Scope (record { scope = v.scope; instructions = body.0 })) (
      ap (λ z. flat.Scope (record { scope = v.scope; instructions = z })) is.0,
      is.1 ∙ no_values (more_blocks body.1 (body.0 ∷ [])),
    )

is_pruned_scope : (v : FlatScopeBlock) (w : Found) (body : ReactiveBlock × Found) → IsBlock v.instructions w body
    → IsStatement (flat.PrunedScope v) w
    (reactive.PrunedScope (record { scope = v.scope; instructions = body.0 }), body.1)
is_pruned_scope v w body is =
    rw (reactive.outs-PrunedScope (record { scope = v.scope; instructions = body.0 })) (
      ap (λ z. flat.PrunedScope (record { scope = v.scope; instructions = z })) is.0,
      is.1 ∙ no_values (more_blocks body.1 (body.0 ∷ [])),
    )

pub statement_is : (v : FlatStatement) (w : Found) (read : ReactiveStatement × Found) → AreNested w.values
    → statement_from v w ≡ Some read → IsStatement v w read
statement_is (flat.Instruction v) w read all h =
    option_and_then_some _ (row_from v w) _ h (λ x e r.
    subst (IsStatement (flat.Instruction v) w) (some_is r) (is_row v w x (row_is v w x all e)))
statement_is (flat.Terminal v) w read all h =
    option_and_then_some _ (terminal_from v.terminal w) _ h (λ t e r.
    subst (IsStatement (flat.Terminal v) w) (some_is r) (is_terminal v w t (terminal_is w t v.terminal all e)))
statement_is (flat.Scope v) w read all h =
    option_and_then_some _ (take_block v.instructions w) _ h (λ body e r.
    subst (IsStatement (flat.Scope v) w) (some_is r) (is_scope v w body (block_is v.instructions w body e)))
statement_is (flat.PrunedScope v) w read all h =
    option_and_then_some _ (take_block v.instructions w) _ h (λ body e r.
    subst (IsStatement (flat.PrunedScope v) w) (some_is r)
    (is_pruned_scope v w body (block_is v.instructions w body e)))

abbrev pub AreStatements : List FlatStatement → Found → List ReactiveStatement × Found → Type 0
AreStatements vs w read =
    (vs ≡ flat_statements (next_of read.1) read.0) × (w ≡ more read.1 (blocks_in read.0) (values_in read.0))

-- the values that are left of those that wait
pub more_nested : (w left : Found) (bs : List ReactiveBlock) (vs : List ReactiveValue) → w ≡ more left bs vs
    → AreNested w.values → AreNested left.values
more_nested w left bs vs is all = left_nested w (more_blocks left bs) vs is all

pub statements_are : (vs : List FlatStatement) (w : Found) (read : List ReactiveStatement × Found) → AreNested w.values
    → from_last statement_from vs w ≡ Some read → AreStatements vs w read
statements_are [] w read all h = subst (AreStatements [] w) (some_is h) (refl, none_more w)
statements_are (v ∷ vs) w read all h =
    option_and_then_some _ (from_last statement_from vs w) _ h (λ others e g.
    option_and_then_some _ (statement_from v others.1) _ g (λ first d r.
    let later = statements_are vs w others all e in
    let x = out-ReactiveStatement first.0 in
    let is = statement_is v others.1 first
    (more_nested w others.1 (blocks_in others.0) (values_in others.0) later.1 all) d in
    subst (AreStatements (v ∷ vs) w) (some_is r) (
      ap (λ z. z ∷ vs) is.0
          ∙ ap (λ z. flat_statement (next_of first.1) x ∷ z)
          (later.0 ∙ ap (λ z. flat_statements (next_of z) others.0) is.1),
      later.1 ∙ (ap (λ z. more z (blocks_in others.0) (values_in others.0)) is.1
          ∙ more_join first.1 (blocks_in_statement x) (blocks_in others.0) (values_in_statement x)
          (values_in others.0)),
    )))
