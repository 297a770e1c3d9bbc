-- Rules that take each state to a related one relate the states before and after a whole tree.
use Rattle.std.proofs.Common.{◌≡◌, List, Result, Ok, Err, refl, subst}
use Rattle.std.specs.Prelude.{IfOk}
use Rattle.rc_hir.specs.Model.{Fault}
use Rattle.rc_names.specs.Numbers.{ScopeId}
use Rattle.rc_tree.proofs.RebuiltHolds.{HoldsOfRules, and_then, having, rebuilt_holds}
use Rattle.rc_tree.proofs.TerminalShapes.{leaf}
use Rattle.rc_tree.specs.Collected.{Contributions, collected, collected_list, collected_terminal}
use Rattle.rc_tree.specs.inside.JoiningLaws.{IsMonoid}
use Rattle.rc_tree.specs.Rebuilt.{Rebuilds, Rules, rebuilt_block}
use Rattle.rc_tree.specs.Step.{bind}
use Rattle.rc_tree.specs.Model.{PrunedReactiveScopeBlock, ReactiveBlock, ReactiveInstruction}
use Rattle.rc_tree.specs.Model.{ReactiveStatement, ReactiveTerminalStatement}

-- contents that say nothing
abbrev no_contents : Contributions (Unit {0})
no_contents = record {
  joining = record { nothing = tt; both = λ x y. tt };
  row = λ x. tt;
  value = λ id x. tt;
  place = λ id x. tt;
  returned = λ id x. tt;
  jump = λ target. tt;
  label = λ label. tt;
  scope = λ scope x. tt;
  pruned_scope = λ scope x. tt;
}

no_contents_join : IsMonoid no_contents.joining
no_contents_join = record { before = λ x. refl; behind = λ x. refl; associative = λ x y z. refl }

module _ {S : Type 0} (rules : Rules S) (Moves : S → S → Type 0) where
  -- each rule takes a state to a related one, if its statement's inside does
  pub record RulesMove : Type 0 where
    pub stays : (s : S) → Moves s s
    pub through : (s t u : S) → Moves s t → Moves t u → Moves s u
    pub row : (x : ReactiveInstruction) (s : S) → IfOk (rules.row x s) (λ r. Moves s r.0)
    pub terminal : (x : ReactiveTerminalStatement) (s : S) → IfOk (rules.terminal x s) (λ r. Moves s r.0)
    pub scope : (of : ScopeId) (inside : ReactiveBlock) (s t : S) → Moves (rules.into_scope of s) t
        → IfOk (rules.scope s (record { scope = of; instructions = inside }) t) (λ r. Moves s r.0)
    pub pruned_scope : (x : PrunedReactiveScopeBlock) (s : S) → IfOk (rules.pruned_scope x s) (λ r. Moves s r.0)
    pub block : (xs : List ReactiveStatement) (s : S) → IfOk (rules.block xs s) (λ r. Moves s r.0)

module _ {S : Type 0} (rules : Rules S) (Moves : S → S → Type 0) (move : RulesMove rules Moves) where
  unfoldable Holds : Unit {0} → S → Result (S × Unit {0}) Fault → Type 0
  Holds x s (Ok r) = Moves s r.0
  Holds x s (Err fault) = Unit {0}

  alone : (s : S) → Holds tt s (Ok (s, tt))
  unfolding Holds
  alone s = move.stays s

  both_move : (x y : Unit {0}) (s : S) (first : Result (S × Unit {0}) Fault) (next : Rebuilds S (Unit {0}))
      → Holds x s first → IfOk first (λ c. Holds y c.0 (next c.0)) → Holds tt s (and_then (λ a b. tt) first next)
  unfolding Holds
  both_move x y s (Err fault) next h k = tt
  both_move x y s (Ok c) next h k = by (next c.0) k
    where
      by : (e : Result (S × Unit {0}) Fault) → Holds y c.0 e → Holds tt s (having (λ b. tt) e)
      by (Err fault) j = tt
      by (Ok d) j = move.through s c.0 d.0 h j

  -- a part with an inside, and its rule
  ruled : {X : Type 0} (has : X → Unit {0}) (s t : S) (inside : Result (S × X) Fault)
      (rule : X → Rebuilds S (List ReactiveStatement)) → Holds tt t (having has inside)
      → ((z : X) (u : S) → Moves t u → IfOk (rule z u) (λ r. Moves s r.0))
      → Holds tt s (having (collected_list no_contents) (bind inside (λ c. rule c.1 c.0)))
  unfolding Holds
  ruled has s t (Err fault) rule h k = tt
  ruled has s t (Ok c) rule h k = by (rule c.1 c.0) (k c.1 c.0 h)
    where
      by : (e : Result (S × List ReactiveStatement) Fault) → IfOk e (λ r. Moves s r.0)
          → Holds tt s (having (collected_list no_contents) e)
      by (Ok r) j = j
      by (Err fault) j = tt

  -- the rule of a statement, after what was before it
  after : (s t : S) (e : Result (S × List ReactiveStatement) Fault) → Moves s t → IfOk e (λ r. Moves t r.0)
      → IfOk e (λ r. Moves s r.0)
  after s t (Ok r) first h = move.through s t r.0 first h
  after s t (Err fault) first h = tt

  all_move : HoldsOfRules rules Holds no_contents no_contents
  all_move = record {
    nothing = alone;
    both = both_move;
    value = λ id x. alone;
    place = λ id x. alone;
    row = λ x s. ruled (λ y. tt) s s (Ok (s, x)) rules.row (alone s)
        (λ y t first. after s t (rules.row y t) first (move.row y t));
    leaf = λ shape label s. ruled (λ t. tt) s s (Ok (s, leaf shape))
        (λ t. rules.terminal (record { terminal = t; label = label })) (alone s)
        (λ t u first. after s u (rules.terminal (record { terminal = t; label = label }) u) first
        (move.terminal (record { terminal = t; label = label }) u));
    terminal = λ x label s inside deep h. ruled (collected_terminal no_contents) s s inside
        (λ t. rules.terminal (record { terminal = t; label = label })) h
        (λ t u first. after s u (rules.terminal (record { terminal = t; label = label }) u) first
        (move.terminal (record { terminal = t; label = label }) u));
    scope = λ x of s inside h. ruled (collected no_contents) s (rules.into_scope of s) inside
        (λ y. rules.scope s (record { scope = of; instructions = y })) h (λ y t. move.scope of y s t);
    pruned_scope = λ x of s inside h. ruled (collected no_contents) s s inside
        (λ y. rules.pruned_scope (record { scope = of; instructions = y })) h
        (λ y t first. after s t (rules.pruned_scope (record { scope = of; instructions = y }) t) first
        (move.pruned_scope (record { scope = of; instructions = y }) t));
    block = λ x s inside h. ruled (collected_list no_contents) s s inside rules.block h
        (λ xs t first. after s t (rules.block xs t) first (move.block xs t));
  }

  -- so the states before and after a block are related
  pub block_moves : (x : ReactiveBlock) (s t : S) (y : ReactiveBlock) → rebuilt_block rules x s ≡ Ok (t, y) → Moves s t
  unfolding Holds
  block_moves x s t y e = subst (λ r. Holds tt s (having (collected no_contents) r)) e
      (rebuilt_holds rules Holds no_contents no_contents no_contents_join all_move x s)
