-- What determines the results of several passes: a test by what it decides, a rebuilt block by the rules, and a
-- function with a kept header by its body.
use Rattle.std.proofs.Common.{◌≡◌, ◌∙◌, ◌↔◌, Bool, true, false, Result, Ok, ap, refl, sym}
use Rattle.rc_hir.specs.Model.{Fault}
use Rattle.rc_tree.specs.Model.{ReactiveBlock}
use Rattle.rc_pipe.specs.Passes.{PassState, state}

-- two tests of the same fact have one answer
pub one_truth : {P : Type 0} (a b : Bool) → (a ≡ true) ↔ P → (b ≡ true) ↔ P → a ≡ b
one_truth true b is is1 = sym (is1.1 (is.0 refl))
one_truth false true is is1 = is.1 (is1.0 refl)
one_truth false false is is1 = refl

-- a result has one state at the end, and one block
pub one_end : {S : Type 0} {result : Result (S × ReactiveBlock) Fault} (end end1 : S) (block block1 : ReactiveBlock)
    → result ≡ Ok (end, block) → result ≡ Ok (end1, block1) → (end ≡ end1) × (block ≡ block1)
one_end {S} end end1 block block1 is is1 =
    let same : ◌≡◌ {A = S × ReactiveBlock} (end, block) (end1, block1) = cc in
    (ap (λ (c : S × ReactiveBlock). c.0) same, ap (λ (c : S × ReactiveBlock). c.1) same)

-- two states after a pass that keeps the header are one, where their bodies and their environments are
pub one_state : (before after after1 : PassState)
    → after.func ≡ record before.func { body = after.func.body }
    → after1.func ≡ record before.func { body = after1.func.body }
    → after.func.body ≡ after1.func.body → after.env ≡ after1.env → after ≡ after1
one_state before after after1 header header1 body env =
    let func : after.func ≡ after1.func =
    header ∙ ap (λ (block : ReactiveBlock). record before.func { body = block }) body ∙ sym header1 in
    λ i. state (func i) (env i)
