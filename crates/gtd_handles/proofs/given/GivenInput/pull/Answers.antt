use Rattle.std.proofs.Common.{◌≡◌, ◌≤◌, ◌+◌, ◌-◌, ◌∙◌, sym, ap, List, ℕ, length, take, drop, ◌++◌, arith, length-take}
use Rattle.std.proofs.Common.{length-drop}
use Rattle.std.proofs.lemmas.List.{take_all, take_at, take-append-drop, drop-drop}
use Rattle.gtd_handles.proofs.given.GivenInput.pull.Goals as goal

-- bytes that start with those that were copied, and go on after them
pulled : (items copied into : List ℕ) (at n : ℕ) → copied ≡ take n (drop at items) → at + n ≤ length items
    → drop at items ≡ take n (copied ++ drop n into) ++ drop (at + n) items
pulled items copied into at n e h =
    let long : length copied ≡ n = ap length e ∙ simp (length-take, length-drop) (omega arith) in
    rw (take_at copied (drop n into) n long, e) (sym (ap (λ r. take n (drop at items) ++ r) (sym (drop-drop n at items))
    ∙ take-append-drop n (drop at items)))

-- what was copied is the front of the bytes that are left
pub returns-clause-bytes : goal.returns-clause-bytes
returns-clause-bytes c =
    let items = c.args.self.now.bytes.items in
    let at = c.args.self.now.at in
    let rest : take (length c.deref.result.now - at) (drop at c.deref.result.now) ≡ drop at items =
    rw c.deref.ensures.value (take_all (length items - at) (drop at items) (simp length-drop (omega arith))) in
    pulled items c.copy_from_slice.new.self c.args.into.now at c.min-n.result
    (c.copy_from_slice.ensures.after ∙ ap (take c.min-n.result) rest) (omega arith)
