-- The tokens of the subject, the state and, if they are asked for, the reasons make up one object.
use Rattle.std.specs.Prelude.{◌≡◌, ◌++◌, [], ◌∷◌, OnOk}
use Rattle.json.specs.Token.{begin_object}
use Rattle.json.specs.Tree.{members_tokens}
use Rattle.gtd_states.specs.States.{state_of}
use Rattle.gtd_now.proofs.Appending.{on_ok, three, both}
use Rattle.gtd_now.proofs.ObjectFacts.{object_tokens}
use Rattle.gtd_now.specs.Objects.{why_members}
use Rattle.gtd_now.specs.ObjectTokens.{state_tokens, subject_tokens}
use Rattle.gtd_now.proofs.object.write_object.Goals as goal

pub returns-clause-tokens : goal.returns-clause-tokens
returns-clause-tokens c =
    let entry = c.args.entry.now in
    let subject = subject_tokens entry.at.element entry.at.direction entry.vehicle in
    let state = state_tokens (state_of entry.state.now) in
    let why = members_tokens (why_members c.args.why c.args.rows.now.lines.now c.args.rows.now.records.now
    entry.state.now.rows.items) in
    let told : OnOk c.write_why.result (c.write_why.new.out.tokens ≡ c.write_state.new.out.tokens ++ why)
    = rw (c.as_slice.ensures.value) at c.write_why.ensures.tokens in
    rw (object_tokens c.args.why c.args.rows.now.lines.now c.args.rows.now.records.now
    entry.at.element entry.at.direction entry.vehicle (state_of entry.state.now))
    (on_ok c.write_why.result _ _
    (λ e. three c.args.out.now.tokens c.begin_object.new.self.tokens c.write_subject.new.out.tokens c.write_why.new.out.tokens
    (begin_object ∷ []) subject (state ++ why)
    c.in_ok-begin_object.ensures.ok c.in_ok-write_subject.ensures.tokens
    (both c.write_why.new.out.tokens c.write_state.new.out.tokens c.write_subject.new.out.tokens state why
    c.in_ok-write_state.ensures.tokens e))
    told)
