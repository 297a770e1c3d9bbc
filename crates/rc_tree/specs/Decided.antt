-- What passes decided of scope blocks: a list of scopes with their fates, in the order in which the blocks end.
--
-- The scope blocks after a pass are those before it without the decided ones. Nothing is said of the order of those
-- that are left, since a pass may move a block.
use Rattle.std.specs.Prelude.{◌≡◌, ◌⊎◌, ◌≤◌, All, List, ◌++◌, map}
use Rattle.rc_names.specs.Numbers.{ScopeId, times}
use Rattle.rc_tree.specs.ScopesIn.{scopes_in}
use Rattle.rc_tree.specs.Model.{ReactiveBlock}
use Rattle.rc_tree.specs.declared.fate.Fate.{Fate}
use Rattle.rc_tree.specs.declared.fate.Fate.TheVariants.{Kept}
use Rattle.rc_tree.specs.declared.fate.ScopeFate.{ScopeFate}
use Rattle.rc_tree.specs.declared.statement.ReactiveStatement.TheVariants as reactive

-- the scopes that were decided
abbrev pub decided : List ScopeFate → List ScopeId
decided log = map (λ entry. entry.scope) log

-- the two lists have the same scopes, and each as often
abbrev pub AreSameScopes : List ScopeId → List ScopeId → Type 0
AreSameScopes xs ys = (scope : ScopeId) → times scope xs ≡ times scope ys

-- the scope blocks after are those before without the decided ones
abbrev pub LosesDecided : ReactiveBlock → ReactiveBlock → List ScopeFate → Type 0
LosesDecided before after log = AreSameScopes (scopes_in before) (scopes_in after ++ decided log)

-- the rule of a pass, judged on what the pass received: whether it gives that scope that fate
abbrev pub FateRule : Type 1
FateRule = ScopeId → Fate → Type 0

-- the rules of the passes, in their order
pub data FateRules : Type 1 where
  NoMore : FateRules
  Then : (rule : FateRule) (rest : FateRules) → FateRules

-- the first rule that gives the scope a fate gives it this one; the scope is kept where none does
abbrev pub IsFateBy : FateRules → ScopeId → Fate → Type 0
IsFateBy NoMore scope fate = fate ≡ Kept
IsFateBy (Then rule rest) scope fate = rule scope fate ⊎ (((other : Fate) → ¬ rule scope other) × IsFateBy rest scope fate)

-- a pass decided by its rule: what it decided is right, it decided all of that, and it decided of the scope blocks that
-- it took away
pub record IsDecidedBy (rule : FateRule) (before after : ReactiveBlock) (log : List ScopeFate) : Type 0 where
  pub right : All (λ entry. rule entry.scope entry.fate) log
  pub never_kept : All (λ entry. ¬ (entry.fate ≡ Kept)) log
  pub all : (scope : ScopeId) → 1 ≤ times scope (scopes_in before) → times scope (decided log) ≡ 0
      → (fate : Fate) → ¬ rule scope fate
  pub lost : LosesDecided before after log
