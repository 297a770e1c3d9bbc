-- Reasons that are listed one after the other, and faults that are handed on.
use Rattle.std.proofs.Common.{◌≡◌, ◌∙◌, ◌⊎◌, ◌+◌, ◌<◌, ℕ, inl, inr, List, ◌++◌, [], ◌∷◌, All, Err, IsOk, Result, get_or}
use Rattle.std.proofs.Common.{length, map, subst, sym, take, true≢false}
use Rattle.std.proofs.lemmas.List.{map-append, take_more}
use Rattle.std.proofs.lemmas.List.Elements.{All-push}
use Rattle.rc_hir.specs.Model.{Environment, Fault}
use Rattle.rc_hir.specs.declared.fault.Fault.TheVariants as faults
use Rattle.rc_pipe.specs.declared.explaining.Told.{Told}
use Rattle.rc_tree.specs.declared.fate.ScopeFate.{ScopeFate}
use Rattle.rc_why.specs.ReasonOf.{fate_of}
use Rattle.rc_why.specs.declared.reason.Reason.{Reason}
use Rattle.rc_why.specs.inside.ToldFacts.{HasFactsBy}

-- there is a reason for each of the first fates, with its facts
abbrev pub AreReasonsSoFar : Environment → Told → List ScopeFate → List Reason → Type 0
AreReasonsSoFar env told first reasons = (map fate_of reasons ≡ first) × All (HasFactsBy env told) reasons

-- one more fate has its reason
pub reason_more : (env : Environment) (told : Told) (fates : List ScopeFate) (place : ℕ) (default : ScopeFate)
    → place < length fates → (reasons new : List Reason) (reason : Reason) → new ≡ reasons ++ reason ∷ []
    → fate_of reason ≡ get_or fates place default → HasFactsBy env told reason
    → AreReasonsSoFar env told (take place fates) reasons → AreReasonsSoFar env told (take (place + 1) fates) new
reason_more env told fates place default below reasons new reason is same by before =
    subst (AreReasonsSoFar env told (take (place + 1) fates)) (sym is) (
      map-append fate_of reasons (reason ∷ []) ∙ (λ i. before.0 i ++ same i ∷ [])
          ∙ sym (take_more fates place default below),
      All-push (HasFactsBy env told) reasons reason before.1 by,
    )

-- a refusal that is one for want of memory alone
pub only_memory : {A : Type 0} (result : Result A Fault) (fault : Fault) → result ≡ Err fault
    → IsOk result ⊎ (result ≡ Err faults.NoMemory) → fault ≡ faults.NoMemory
only_memory {A} result fault is (inl ok) = absurd (true≢false (sym (subst IsOk is ok)))
only_memory {A} result fault is (inr memory) =
    let same : ◌≡◌ {A = Result A Fault} (Err fault) (Err faults.NoMemory) = sym is ∙ memory in
    cc
