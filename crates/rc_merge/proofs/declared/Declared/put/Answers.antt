use Rattle.std.proofs.Common.{◌≡◌, ◌∙◌, Bool, Bor, true, false, List, Option, None, Some, ap, not, refl, subst, sym}
use Rattle.std.specs.Prelude.{IfOk, is_some, option_copied}
use Rattle.rc_hir.specs.Model.{DeclarationEntry}
use Rattle.rc_merge.specs.declared.declared.Declared.{Declared}
use Rattle.rc_merge.specs.inside.Declarations.{is_current, slot_of}
use Rattle.rc_merge.specs.inside.Indexed.{current}
use Rattle.rc_merge.specs.inside.LastUsesMet.{uses_of}
use Rattle.rc_merge.specs.inside.LastUsesMet.{uses_of}
use Rattle.rc_merge.proofs.CurrentLemmas.{put_pushed}
use Rattle.rc_merge.proofs.declared.Declared.put.Goals as goal

none_copied : {X : Type 0} (o : Option (Bor X)) (b : Bool) → is_some o ≡ not b → b ≡ true → option_copied o ≡ None
none_copied None b some none = refl
none_copied (Some x) b some none = let differ : true ≡ false = some ∙ ap not none in let bad : ⊥ = cc in absurd bad

pub returns-then-is_current-clause-current : goal.returns-then-is_current-clause-current
returns-then-is_current-clause-current c =
    let declared = c.args.self in
    let entry = c.args.entry in
    let env = c.args.known.now.env.now in
    let uses = uses_of c.args.known.now.uses.now in
    subst (λ (l : List DeclarationEntry). IfOk c.push.result (λ (put : Declared). current put ≡ l))
    (put_pushed declared.end declared.slots (slot_of env uses entry)
    (ap (is_current declared.end) (sym c.new.ensures) ∙ sym c.is_current.ensures ∙ c.if-is_current.true)
    (sym (c.requires.placed entry.key) ∙ sym c.get.ensures
    ∙ none_copied c.get.result c.is_none.result c.is_none.ensures c.if-is_none.true))
    c.push.ensures.current
