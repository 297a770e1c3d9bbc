-- The replacement of a terminal whose inside is pruned: a `Label` that nothing names gives way to its
-- statements, which are put by then, and any other terminal stays.
use Rattle.std.proofs.Common.{◌≡◌, ◌∙◌, Bool, true, false, List, [], ◌∷◌, ◌++◌, Option, None, Some, Result, Ok, Err}
use Rattle.std.proofs.Common.{if◌then◌else◌, is_some, length, refl, sym, ap}
use Rattle.std.proofs.lemmas.List.{append-nil, drop_at, take_at}
use Rattle.rc_tree.proofs.StepLemmas.{Ok-injective}
use Rattle.rc_checks.specs.inside.LabelPruning.{OpenLabel, as_label, put_behind, done_before, emptied_label, label_in}
use Rattle.rc_checks.specs.inside.LabelPruning.{moved, opened, refilled}
use Rattle.rc_checks.specs.Labels.{Targets, flattened, in_place_of, is_named, label_after, label_rules, targets_behind}
use Rattle.rc_hir.specs.Model.{Fault}
use Rattle.rc_tree.proofs.RebuiltLemmas.{rebuilt-labeled, rebuilt-Terminal}
use Rattle.rc_tree.specs.Unrolled.{UnrolledTerminal}
use Rattle.rc_tree.specs.Step.{bind}
use Rattle.rc_tree.specs.Rebuilt.{rebuilt_statement, rebuilt_terminal}
use Rattle.rc_tree.specs.Model.{ReactiveStatement, ReactiveLabel, ReactiveTerminalStatement}
use Rattle.rc_tree.specs.declared.statement.ReactiveStatement.TheOpen as layer
use Rattle.rc_tree.specs.declared.statement.ReactiveStatement.TheVariants as reactive
use Rattle.rc_tree.specs.declared.terminal.ReactiveTerminal.{ReactiveTerminal, out-ReactiveTerminal}
use Rattle.rc_tree.specs.declared.terminal.ReactiveTerminal.{roll-ReactiveTerminal, roll-out-ReactiveTerminal}
use Rattle.rc_tree.specs.declared.terminal.ReactiveTerminal.TheVariants as tree

-- a terminal that is one as a `Label` is a `Label`
is_label : (x : UnrolledTerminal) (label : OpenLabel) → as_label x ≡ Some label → x ≡ layer.Label label.0 label.1
is_label (layer.Break target kind id) label e = let bad : ⊥ = cc in absurd bad
is_label (layer.Continue target kind id) label e = let bad : ⊥ = cc in absurd bad
is_label (layer.Return value id) label e = let bad : ⊥ = cc in absurd bad
is_label (layer.Throw value id) label e = let bad : ⊥ = cc in absurd bad
is_label (layer.Switch test cases id) label e = let bad : ⊥ = cc in absurd bad
is_label (layer.DoWhile body test id) label e = let bad : ⊥ = cc in absurd bad
is_label (layer.While test body id) label e = let bad : ⊥ = cc in absurd bad
is_label (layer.For init test update body id) label e = let bad : ⊥ = cc in absurd bad
is_label (layer.ForOf init test body span id) label e = let bad : ⊥ = cc in absurd bad
is_label (layer.ForIn init body span id) label e = let bad : ⊥ = cc in absurd bad
is_label (layer.If test consequent alternate id) label e = let bad : ⊥ = cc in absurd bad
is_label (layer.Label body id) label e =
    let same : (body, id) ≡ label = cc in ap (λ (l : OpenLabel). layer.Label l.0 l.1) same
is_label (layer.Try body binding handler id) label e = let bad : ⊥ = cc in absurd bad

-- the statements of a `Label` that isn't named
abbrev unless : Bool → Option OpenLabel → Option (List ReactiveStatement)
unless named (Some label) = if named then None else Some label.0.statements
unless named None = None

flattened-unless : (targets : Targets) (label : Option ReactiveLabel) (x : UnrolledTerminal)
    → flattened targets label x ≡ unless (is_named targets label) (as_label x)
flattened-unless targets label (layer.Break target kind id) = refl
flattened-unless targets label (layer.Continue target kind id) = refl
flattened-unless targets label (layer.Return value id) = refl
flattened-unless targets label (layer.Throw value id) = refl
flattened-unless targets label (layer.Switch test cases id) = refl
flattened-unless targets label (layer.DoWhile body test id) = refl
flattened-unless targets label (layer.While test body id) = refl
flattened-unless targets label (layer.For init test update body id) = refl
flattened-unless targets label (layer.ForOf init test body span id) = refl
flattened-unless targets label (layer.ForIn init body span id) = refl
flattened-unless targets label (layer.If test consequent alternate id) = refl
flattened-unless targets label (layer.Label body id) = refl
flattened-unless targets label (layer.Try body binding handler id) = refl

-- the targets after a terminal, and whether it gives way
abbrev behind_it : ReactiveTerminal → Targets → Targets
behind_it x t = targets_behind (out-ReactiveTerminal x) t

abbrev pub gives_way : Targets → Option ReactiveLabel → ReactiveTerminal → Bool
gives_way targets label x = is_some (flattened targets label (out-ReactiveTerminal x))

abbrev Judged : Type 0
Judged = Result (Targets × List ReactiveStatement) Fault

-- a terminal, with the `Label` that it is
module _ (label : Option ReactiveLabel) (done : List ReactiveStatement) (whole : ReactiveTerminal) (t : Targets) where
  abbrev labeled : ReactiveTerminalStatement
  labeled = record { terminal = whole; label = label }

  -- the terminal that is left, and the targets after it
  abbrev left_of : Option OpenLabel → ReactiveTerminal
  left_of l = emptied_label l whole

  abbrev after : Option OpenLabel → Targets
  after l = behind_it (left_of l) t

  -- the terminal with its statements again
  abbrev again : Option OpenLabel → ReactiveTerminalStatement
  again l = record {
    terminal = refilled (done ++ moved l) (length done) (label_in (left_of l)) (left_of l);
    label = label_after (after l) label;
  }

  goes : (l : Option OpenLabel) → label_in whole ≡ l → gives_way (after l) label (left_of l) ≡ true
      → ◌≡◌ {A = Judged} (put_behind done (label_rules.terminal labeled t)) (Ok (after l, done ++ moved l))
  goes None k h =
      let none : flattened (after None) label (out-ReactiveTerminal whole) ≡ None =
      flattened-unless (after None) label (out-ReactiveTerminal whole)
      ∙ ap (unless (is_named (after None) label)) k in
      let bad : ◌≡◌ {A = Bool} false true = sym (ap is_some none) ∙ h in absurd cc
  goes (Some l) k h =
      rw (is_label (out-ReactiveTerminal whole) l k, tree.outs-Label (record { statements = [] }) l.1)
      (by (is_named t label) (rw (tree.outs-Label (record { statements = [] }) l.1) at h))
    where
      by : (named : Bool) → is_some {T = List ReactiveStatement} (if named then None else Some []) ≡ true
          → ◌≡◌ {A = Judged} (Ok (t, done ++ in_place_of t labeled (if named then None else Some l.0.statements)))
          (Ok (t, done ++ l.0.statements))
      by true h = let bad : ◌≡◌ {A = Bool} false true = h in absurd cc
      by false h = refl

  stays : (l : Option OpenLabel) → label_in whole ≡ l → gives_way (after l) label (left_of l) ≡ false
      → ◌≡◌ {A = Judged} (put_behind done (label_rules.terminal labeled t)) (Ok (
        after l,
        done_before (done ++ moved l) (length done) (label_in (left_of l)) ++ reactive.Terminal (again l) ∷ [],
      ))
  stays None k h =
      rw (flattened-unless (after None) label (out-ReactiveTerminal whole), k, append-nil done) refl
  stays (Some l) k h =
      let is : out-ReactiveTerminal whole ≡ layer.Label l.0 l.1 = is_label (out-ReactiveTerminal whole) l k in
      let same : whole ≡ tree.Label l.0 l.1 =
      sym (roll-out-ReactiveTerminal whole) ∙ ap roll-ReactiveTerminal is ∙ tree.rolls-Label l.0 l.1 in
      rw (
        is,
        tree.outs-Label (record { statements = [] }) l.1,
        take_at done l.0.statements (length done) refl,
        drop_at done l.0.statements (length done) refl,
        append-nil l.0.statements,
        sym same,
      ) (by (is_named t label) (rw (tree.outs-Label (record { statements = [] }) l.1) at h))
    where
      by : (named : Bool) → is_some {T = List ReactiveStatement} (if named then None else Some []) ≡ false
          → ◌≡◌ {A = Judged} (Ok (t, done ++ in_place_of t labeled (if named then None else Some l.0.statements)))
          (Ok (t, done ++ reactive.Terminal (record { terminal = whole; label = label_after t label }) ∷ []))
      by true h = refl
      by false h = let bad : ◌≡◌ {A = Bool} true false = h in absurd cc

-- a `Label` takes back all that its inside has put, and others have put nothing
taken_back : (done : List ReactiveStatement) (whole : ReactiveTerminal) (l : Option OpenLabel) → label_in whole ≡ l
    → done_before (done ++ moved l) (length done) (label_in (emptied_label l whole)) ≡ done
taken_back done whole None k = rw (k, append-nil done) refl
taken_back done whole (Some l) k =
    rw (tree.outs-Label (record { statements = [] }) l.1, take_at done l.0.statements (length done) refl) refl

-- a terminal with its label
abbrev with_label : Option ReactiveLabel → Targets × ReactiveTerminal
    → Result (Targets × ReactiveTerminalStatement) Fault
with_label label a = Ok (a.0, record { terminal = a.1; label = label })

abbrev Left : Type 0
Left = Targets × (ReactiveTerminal × List ReactiveStatement)

-- the replacement of a terminal, from its pruned inside
module _ (x : ReactiveTerminalStatement) (t t1 t2 : Targets) (done done1 : List ReactiveStatement)
    (left : ReactiveTerminal)
    (inside : opened done (rebuilt_terminal label_rules x.terminal t) ≡ Ok (t1, (left, done1)))
    (noted : t2 ≡ behind_it left t1) where
  -- the rule's part of it
  abbrev judged : Result (Targets × ReactiveTerminal) Fault → Judged
  judged r = put_behind done (bind (bind r (with_label x.label)) (λ a. label_rules.terminal a.1 a.0))

  whole_left : (a : Targets × ReactiveTerminal) → opened done (Ok a) ≡ Ok (t1, (left, done1))
      → ◌≡◌ {A = Left} (t1, (left, done1)) (a.0, (emptied_label (label_in a.1) a.1, done ++ moved (label_in a.1)))
  whole_left a e =
      sym (Ok-injective (a.0, (emptied_label (label_in a.1) a.1, done ++ moved (label_in a.1))) (t1, (left, done1)) e)

  pub given_way : gives_way t2 x.label left ≡ true
      → put_behind done (rebuilt_statement label_rules (reactive.Terminal x) t) ≡ Ok (t2, done1 ++ [])
  given_way h =
      rw (rebuilt-Terminal label_rules x t, rebuilt-labeled label_rules x t, append-nil done1)
      (by (rebuilt_terminal label_rules x.terminal t) inside)
    where
      by : (r : Result (Targets × ReactiveTerminal) Fault) → opened done r ≡ Ok (t1, (left, done1))
          → judged r ≡ Ok (t2, done1)
      by (Ok a) e =
          let same = whole_left a e in
          let met : t1 ≡ a.0 = ap (λ (l : Left). l.0) same in
          let rest : left ≡ emptied_label (label_in a.1) a.1 = ap (λ (l : Left). l.1.0) same in
          let put : done1 ≡ done ++ moved (label_in a.1) = ap (λ (l : Left). l.1.1) same in
          rw (noted, met, rest, put) (goes x.label done a.1 a.0 (label_in a.1) refl (rw (noted, met, rest) at h))
      by (Err fault) e = let bad : ⊥ = cc in absurd bad

  module _ (terminal2 : ReactiveTerminal) (done2 : List ReactiveStatement)
      (whole : terminal2 ≡ refilled done1 (length done) (label_in left) left)
      (before : done2 ≡ done_before done1 (length done) (label_in left)) where
    abbrev marked : ReactiveTerminal → ReactiveStatement
    marked terminal = reactive.Terminal (record { terminal = terminal; label = label_after t2 x.label })

    pub stayed : gives_way t2 x.label left ≡ false
        → put_behind done (rebuilt_statement label_rules (reactive.Terminal x) t)
        ≡ Ok (t2, done2 ++ marked terminal2 ∷ [])
    stayed h =
        rw (rebuilt-Terminal label_rules x t, rebuilt-labeled label_rules x t, whole, before)
        (by (rebuilt_terminal label_rules x.terminal t) inside)
      where
        by : (r : Result (Targets × ReactiveTerminal) Fault) → opened done r ≡ Ok (t1, (left, done1))
            → judged r ≡ Ok (
              t2,
              done_before done1 (length done) (label_in left)
                  ++ marked (refilled done1 (length done) (label_in left) left) ∷ [],
            )
        by (Ok a) e =
            let same = whole_left a e in
            let met : t1 ≡ a.0 = ap (λ (l : Left). l.0) same in
            let rest : left ≡ emptied_label (label_in a.1) a.1 = ap (λ (l : Left). l.1.0) same in
            let put : done1 ≡ done ++ moved (label_in a.1) = ap (λ (l : Left). l.1.1) same in
            rw (noted, met, rest, put) (stays x.label done a.1 a.0 (label_in a.1) refl (rw (noted, met, rest) at h))
        by (Err fault) e = let bad : ⊥ = cc in absurd bad

    -- it takes back all that its inside has put
    pub stayed_alone : done2 ≡ done
    stayed_alone = before ∙ by (rebuilt_terminal label_rules x.terminal t) inside
      where
        by : (r : Result (Targets × ReactiveTerminal) Fault) → opened done r ≡ Ok (t1, (left, done1))
            → done_before done1 (length done) (label_in left) ≡ done
        by (Ok a) e =
            let same = whole_left a e in
            let rest : left ≡ emptied_label (label_in a.1) a.1 = ap (λ (l : Left). l.1.0) same in
            let put : done1 ≡ done ++ moved (label_in a.1) = ap (λ (l : Left). l.1.1) same in
            rw (rest, put) (taken_back done a.1 (label_in a.1) refl)
        by (Err fault) e = let bad : ⊥ = cc in absurd bad
