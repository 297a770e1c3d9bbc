-- Rules that keep a fact of their states and a fact of what a tree has keep both for the whole tree.
use Rattle.std.proofs.Common.{◌≡◌, List, Option, Result, Ok, Err, sym, subst}
use Rattle.std.specs.Prelude.{IfOk}
use Rattle.rc_hir.specs.Model.{Fault}
use Rattle.rc_names.specs.Numbers.{ScopeId}
use Rattle.rc_tree.proofs.RebuiltHolds.{HoldsOfRules, and_then, having, rebuilt_holds}
use Rattle.rc_tree.proofs.TerminalShapes.{Leaf, leaf, of_leaf, collected-leaf}
use Rattle.rc_tree.specs.Collected.{Contributions, collected, collected_list, collected_terminal}
use Rattle.rc_tree.specs.inside.JoiningLaws.{IsMonoid}
use Rattle.rc_tree.specs.Rebuilt.{Rebuilds, Rules, rebuilt_block}
use Rattle.rc_tree.specs.Step.{bind}
use Rattle.rc_tree.specs.Model.{ReactiveBlock, ReactiveInstruction, ReactiveLabel}
use Rattle.rc_tree.specs.Model.{ReactiveStatement, ReactiveTerminal, ReactiveTerminalStatement}

module _ {S A : Type 0} (rules : Rules S) (Stays : S → Type 0) (Known : A → Type 0) (a : Contributions A) where
  -- the state stays as it should be, and so does what is in a part's place
  abbrev pub Kept : Result (S × A) Fault → Type 0
  Kept (Ok r) = Stays r.0 × Known r.1
  Kept (Err fault) = Unit {0}

  -- each rule keeps the facts, where they hold of its statement
  pub record KeepsFacts : Type 0 where
    pub nothing : Known a.joining.nothing
    pub both : (x y : A) → Known x → Known y → Known (a.joining.both x y)
    pub first : (x y : A) → Known (a.joining.both x y) → Known x
    pub second : (x y : A) → Known (a.joining.both x y) → Known y
    pub inside : (of : ScopeId) (x : A) → Known (a.scope of x) → Known x
    pub inside_pruned : (of : ScopeId) (x : A) → Known (a.pruned_scope of x) → Known x
    pub into_scope : (of : ScopeId) (s : S) → Stays s → Stays (rules.into_scope of s)
    pub row : (x : ReactiveInstruction) (s : S) → Stays s → Known (a.row x)
        → Kept (having (collected_list a) (rules.row x s))
    pub terminal : (x : ReactiveTerminalStatement) (s : S) → Stays s
        → Known (a.joining.both (a.label x.label) (collected_terminal a x.terminal))
        → Kept (having (collected_list a) (rules.terminal x s))
    -- a scope block, from the state in front of it and the one at the end of its inside
    pub scope : (of : ScopeId) (x : A) (inside : ReactiveBlock) (met s : S) → Stays met → Stays s
        → Known (a.scope of x) → Known (collected a inside)
        → Kept (having (collected_list a) (rules.scope met (record { scope = of; instructions = inside }) s))
    pub pruned_scope : (of : ScopeId) (x : A) (inside : ReactiveBlock) (s : S) → Stays s
        → Known (a.pruned_scope of x) → Known (collected a inside)
        → Kept (having (collected_list a) (rules.pruned_scope (record { scope = of; instructions = inside }) s))
    pub block : (xs : List ReactiveStatement) (s : S) → Stays s → Known (collected_list a xs)
        → Kept (having (collected_list a) (rules.block xs s))

module _ {S A : Type 0} (rules : Rules S) (Stays : S → Type 0) (Known : A → Type 0) (a : Contributions A)
    (monoid : IsMonoid a.joining) (keep : KeepsFacts rules Stays Known a) where
  abbrev IsKept : Result (S × A) Fault → Type 0
  IsKept = Kept rules Stays Known a

  unfoldable Keeps : A → S → Result (S × A) Fault → Type 0
  Keeps x s e = Known x → Stays s → IsKept e

  alone : (x : A) (s : S) → Keeps x s (Ok (s, x))
  unfolding Keeps
  alone x s known stays = (stays, known)

  both_keep : (x y : A) (s : S) (first : Result (S × A) Fault) (next : Rebuilds S A) → Keeps x s first
      → IfOk first (λ c. Keeps y c.0 (next c.0)) → Keeps (a.joining.both x y) s (and_then a.joining.both first next)
  unfolding Keeps
  both_keep x y s (Err fault) next h k known stays = tt
  both_keep x y s (Ok c) next h k known stays =
      let one = h (keep.first x y known) stays in by one.1 (next c.0) (k (keep.second x y known) one.0)
    where
      by : Known c.1 → (e : Result (S × A) Fault) → IsKept e → IsKept (having (a.joining.both c.1) e)
      by one (Err fault) j = tt
      by one (Ok d) j = (j.0, keep.both c.1 d.1 one j.1)

  terminal_keeps : (x : A) (label : Option ReactiveLabel) (s : S) (inside : Result (S × ReactiveTerminal) Fault)
      → Keeps x s (having (collected_terminal a) inside)
      → Keeps (a.joining.both (a.label label) x) s (having (collected_list a)
      (bind inside (λ c. rules.terminal (record { terminal = c.1; label = label }) c.0)))
  unfolding Keeps
  terminal_keeps x label s (Err fault) h known stays = tt
  terminal_keeps x label s (Ok c) h known stays =
      let one = h (keep.second (a.label label) x known) stays in
      keep.terminal (record { terminal = c.1; label = label }) c.0 one.0
      (keep.both (a.label label) (collected_terminal a c.1) (keep.first (a.label label) x known) one.1)

  scope_keeps : (x : A) (of : ScopeId) (s : S) (inside : Result (S × ReactiveBlock) Fault)
      → Keeps x (rules.into_scope of s) (having (collected a) inside)
      → Keeps (a.scope of x) s (having (collected_list a)
      (bind inside (λ c. rules.scope s (record { scope = of; instructions = c.1 }) c.0)))
  unfolding Keeps
  scope_keeps x of s (Err fault) h known stays = tt
  scope_keeps x of s (Ok c) h known stays =
      let one = h (keep.inside of x known) (keep.into_scope of s stays) in
      keep.scope of x c.1 s c.0 stays one.0 known one.1

  pruned_scope_keeps : (x : A) (of : ScopeId) (s : S) (inside : Result (S × ReactiveBlock) Fault)
      → Keeps x s (having (collected a) inside)
      → Keeps (a.pruned_scope of x) s (having (collected_list a)
      (bind inside (λ c. rules.pruned_scope (record { scope = of; instructions = c.1 }) c.0)))
  unfolding Keeps
  pruned_scope_keeps x of s (Err fault) h known stays = tt
  pruned_scope_keeps x of s (Ok c) h known stays =
      let one = h (keep.inside_pruned of x known) stays in keep.pruned_scope of x c.1 c.0 one.0 known one.1

  block_keeps : (x : A) (s : S) (inside : Result (S × List ReactiveStatement) Fault)
      → Keeps x s (having (collected_list a) inside)
      → Keeps x s (having (collected_list a) (bind inside (λ c. rules.block c.1 c.0)))
  unfolding Keeps
  block_keeps x s (Err fault) h known stays = tt
  block_keeps x s (Ok c) h known stays = let one = h known stays in keep.block c.1 c.0 one.0 one.1

  leaf_keeps : (shape : Leaf) (label : Option ReactiveLabel) (s : S)
      → Keeps (a.joining.both (a.label label) (of_leaf a shape)) s
      (having (collected_list a) (rules.terminal (record { terminal = leaf shape; label = label }) s))
  unfolding Keeps
  leaf_keeps shape label s known stays =
      keep.terminal (record { terminal = leaf shape; label = label }) s stays
      (subst (λ x. Known (a.joining.both (a.label label) x)) (sym (collected-leaf a shape)) known)

  row_keeps : (x : ReactiveInstruction) (s : S) → Keeps (a.row x) s (having (collected_list a) (rules.row x s))
  unfolding Keeps
  row_keeps x s known stays = keep.row x s stays known

  all_keep : HoldsOfRules rules Keeps a a
  all_keep = record {
    nothing = alone a.joining.nothing;
    both = both_keep;
    value = λ id x. alone (a.value id x);
    place = λ id x. alone (a.place id x);
    row = row_keeps;
    leaf = leaf_keeps;
    terminal = λ x label s inside deep. terminal_keeps x label s inside;
    scope = scope_keeps;
    pruned_scope = pruned_scope_keeps;
    block = block_keeps;
  }

  -- so they hold after each block
  pub rebuilt_facts : (x : ReactiveBlock) (s t : S) (y : ReactiveBlock) → rebuilt_block rules x s ≡ Ok (t, y)
      → Known (collected a x) → Stays s → Stays t × Known (collected a y)
  unfolding Keeps
  rebuilt_facts x s t y e = subst (λ r. Known (collected a x) → Stays s → IsKept (having (collected a) r)) e
      (rebuilt_holds rules Keeps a a monoid all_keep x s)
