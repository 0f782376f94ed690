-- The same of each code of a row.
use Rattle.std.proofs.Common.{◌≡◌, ◌+◌, ◌++◌, [], ◌∷◌, arith, get_or, take}
use Rattle.std.proofs.lemmas.List.{take_all, take_more}
use Rattle.gtd_faults.proofs.NamingFacts.{none_more}
use Rattle.gtd_faults.proofs.codes.take_codes.Goals as goal

pub loop-code-init : goal.loop-code-init
loop-code-init c = λ bytes named is number kept. none_more c.args.path.now bytes named c.args.by_code.now.items kept

pub loop-code-preserved : goal.loop-code-preserved
loop-code-preserved c = λ bytes named is number kept.
    let i = c.loop-code.code-index in
    let codes = c.args.codes.now in
    let next : take (i + 1) codes ≡ take i codes ++ get_or codes i 0 ∷ [] = take_more codes i 0 (omega arith) in
    rw next (c.in_ok-take_code.ensures bytes named (take i codes) is number (c.loop-code.invariant bytes named is number kept))

pub returns : goal.returns
returns c = λ bytes named is number kept.
    let all : take c.loop-code.code-index c.args.codes.now ≡ c.args.codes.now =
    take_all c.loop-code.code-index c.args.codes.now (omega arith) in
    rw all at (c.loop-code.invariant bytes named is number kept)
