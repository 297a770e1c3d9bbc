-- Merging is fresh: a scope that lost its block recomputes only if the scope that it is now a part of does.
--
-- A scope recomputes by the dependencies that it had before merging, which changes none.
use Rattle.std.specs.Prelude.{Contains, List}
use Rattle.rc_hir.specs.Model.{Environment}
use Rattle.rc_names.specs.Numbers.{ScopeId}
use Rattle.rc_merge.specs.Renders.{HasCopiesOnce, IsLegal, Recomputes, Render}
use Rattle.rc_tree.specs.declared.fate.Fate.TheVariants.{DissolvedInto, MergedInto}
use Rattle.rc_tree.specs.declared.fate.ScopeFate.{ScopeFate}
use Rattle.rc_tree.specs.Model.{ReactiveBlock}

-- the scope joined that head
abbrev pub IsMergedInto : List ScopeFate → ScopeId → ScopeId → Type 0
IsMergedInto log scope head = Contains log (record { scope = scope; fate = MergedInto head })

-- the scope block was dissolved in the parent's
abbrev pub IsDissolvedInto : List ScopeFate → ScopeId → ScopeId → Type 0
IsDissolvedInto log scope parent = Contains log (record { scope = scope; fate = DissolvedInto parent })

-- a scope is a part of itself, and a scope that joined a head is a part of whatever that head is a part of
pub data IsPart (log : List ScopeFate) : ScopeId → ScopeId → Type 0 where
  itself : {scope : ScopeId} → IsPart log scope scope
  joined : {scope head whole : ScopeId} → IsMergedInto log scope head → IsPart log head whole
      → IsPart log scope whole

module _ (env : Environment) where
  -- in that render the first scope recomputes only where the second one does
  abbrev pub RecomputesWith : Render → ScopeId → ScopeId → Type 0
  RecomputesWith render scope other = Recomputes env render scope → Recomputes env render other

  -- if no copied name is written by two rows, then in each legal render a scope that joined a head recomputes only
  -- where the head does
  abbrev pub JoinsFresh : ReactiveBlock → List ScopeFate → Type 0
  JoinsFresh body log = HasCopiesOnce env body → (render : Render) → IsLegal env body render
      → (scope head : ScopeId) → IsMergedInto log scope head → RecomputesWith render scope head

  -- under the same premise a scope recomputes wherever a part of it would have
  abbrev pub PartsFresh : ReactiveBlock → List ScopeFate → Type 0
  PartsFresh body log = HasCopiesOnce env body → (render : Render) → IsLegal env body render
      → (part whole : ScopeId) → IsPart log part whole → RecomputesWith render part whole

  -- in each render a scope that was dissolved recomputes only where its parent does
  abbrev pub DissolvesFresh : List ScopeFate → Type 0
  DissolvesFresh log = (render : Render) (scope parent : ScopeId) → IsDissolvedInto log scope parent
      → RecomputesWith render scope parent
