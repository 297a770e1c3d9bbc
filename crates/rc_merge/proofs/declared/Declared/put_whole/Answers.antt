use Rattle.std.proofs.Common.{◌≡◌, ◌∙◌, List, ap, subst, sym}
use Rattle.std.specs.Prelude.{IfOk}
use Rattle.rc_hir.specs.Model.{DeclarationEntry}
use Rattle.rc_merge.specs.Joining.{declared_name, put_declaration}
use Rattle.rc_merge.specs.declared.declared.Declared.{Declared}
use Rattle.rc_merge.specs.inside.Declarations.{entries_of, slot_of}
use Rattle.rc_merge.specs.inside.Indexed.{current}
use Rattle.rc_merge.specs.inside.LastUsesMet.{uses_of}
use Rattle.rc_merge.proofs.CurrentLemmas.{all_current, put_pushed, used_from_first}
use Rattle.rc_merge.proofs.DeclaredLemmas.{put_in}
use Rattle.rc_merge.proofs.declared.Declared.put_whole.Goals as goal

pub replace-requires-clause-placed : goal.replace-requires-clause-placed
replace-requires-clause-placed c =
    sym (c.requires.indexed.placed c.args.entry.key) ∙ sym c.get.ensures ∙ sym c.copied.ensures ∙ c.in-Some.is

pub returns-in-Some-clause-current : goal.returns-in-Some-clause-current
returns-in-Some-clause-current c =
    let declared = c.args.self in
    let entry = c.args.entry in
    subst (λ (l : List DeclarationEntry). IfOk c.replace.result (λ (put : Declared). current put ≡ l))
    (put_in (entries_of declared.slots) entry c.in-Some.place
    (sym (c.requires.indexed.placed entry.key) ∙ sym c.get.ensures ∙ sym c.copied.ensures ∙ c.in-Some.is)
    ∙ ap (λ l. put_declaration l entry) (sym (all_current declared.end declared.slots c.requires.whole)))
    c.replace.ensures.current

pub returns-in-None-clause-current : goal.returns-in-None-clause-current
returns-in-None-clause-current c =
    let declared = c.args.self in
    let entry = c.args.entry in
    let env = c.args.known.now.env.now in
    let uses = uses_of c.args.known.now.uses.now in
    subst (λ (l : List DeclarationEntry). IfOk c.push.result (λ (put : Declared). current put ≡ l))
    (put_pushed declared.end declared.slots (slot_of env uses entry)
    (used_from_first declared.end (uses (declared_name env entry)) c.requires.whole)
    (sym (c.requires.indexed.placed entry.key) ∙ sym c.get.ensures ∙ sym c.copied.ensures ∙ c.in-None.is))
    c.push.ensures.current
