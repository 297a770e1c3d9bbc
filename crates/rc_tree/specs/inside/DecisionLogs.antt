-- How a log of decisions comes about: what each rule of a pass logs, and the logs of passes that follow each other.
use Rattle.std.specs.Prelude.{◌≡◌, List, [], ◌∷◌, ◌++◌, Result, Ok, Err, if◌then◌else◌}
use Rattle.rc_hir.specs.Model.{Fault}
use Rattle.rc_names.specs.Numbers.{ScopeId, same_id}
use Rattle.rc_tree.specs.Collected.{collected_list, collected_statement}
use Rattle.rc_tree.specs.Decided.{AreSameScopes, FateRules, NoMore, Then, IsDecidedBy, decided}
use Rattle.rc_tree.specs.Rebuilt.{Rules}
use Rattle.rc_tree.specs.ScopesIn.{scope_parts, scopes_in}
use Rattle.rc_tree.specs.Model.{PrunedReactiveScopeBlock, ReactiveBlock, ReactiveInstruction, ReactiveScopeBlock}
use Rattle.rc_tree.specs.Model.{ReactiveStatement, ReactiveTerminalStatement}
use Rattle.rc_tree.specs.declared.fate.Fate.{Fate}
use Rattle.rc_tree.specs.declared.fate.Fate.TheVariants.{Kept}
use Rattle.rc_tree.specs.declared.fate.ScopeFate.{ScopeFate}
use Rattle.rc_tree.specs.declared.statement.ReactiveStatement.TheVariants as reactive

-- a rule's replacement has the scope blocks of what it replaces, without those that the rule decided; `told` lists what
-- was decided up to a state
abbrev pub DecidesOf : {S : Type 0} → (S → List ScopeFate) → List ScopeId → S
    → Result (S × List ReactiveStatement) Fault → Type 0
DecidesOf told scopes s (Ok r) =
    AreSameScopes (scopes ++ decided (told s)) (collected_list scope_parts r.1 ++ decided (told r.0))
DecidesOf told scopes s (Err fault) = Unit {0}

-- each rule of a pass logs each scope block that it takes away
pub record TellsDecisions {S : Type 0} (rules : Rules S) (told : S → List ScopeFate) : Type 0 where
  pub row : (x : ReactiveInstruction) (s : S) → DecidesOf told [] s (rules.row x s)
  pub terminal : (x : ReactiveTerminalStatement) (s : S)
      → DecidesOf told (collected_statement scope_parts (reactive.Terminal x)) s (rules.terminal x s)
  pub pruned_scope : (x : PrunedReactiveScopeBlock) (s : S)
      → DecidesOf told (scopes_in x.instructions) s (rules.pruned_scope x s)
  pub into_scope : (scope : ScopeId) (s : S) → told (rules.into_scope scope s) ≡ told s
  pub scope : (met : S) (x : ReactiveScopeBlock) (s : S)
      → DecidesOf told (scopes_in x.instructions ++ x.scope ∷ []) s (rules.scope met x s)
  pub block : (xs : List ReactiveStatement) (s : S)
      → DecidesOf told (collected_list scope_parts xs) s (rules.block xs s)

-- the fate of a scope: what was decided first of it, and `Kept` where nothing was
abbrev pub fate_by : List ScopeFate → ScopeId → Fate
fate_by [] scope = Kept
fate_by (entry ∷ log) scope = if same_id scope entry.scope then entry.fate else fate_by log scope

-- the passes decided by these rules, one after the other; the log is all that they decided
abbrev pub AreDecidedBy : FateRules → ReactiveBlock → ReactiveBlock → List ScopeFate → Type 0
AreDecidedBy NoMore before after log = (scopes_in before ≡ scopes_in after) × (log ≡ [])
AreDecidedBy (Then rule rest) before after log = (between : ReactiveBlock) × (first : List ScopeFate)
    × (later : List ScopeFate) × (log ≡ first ++ later) × IsDecidedBy rule before between first
    × AreDecidedBy rest between after later
