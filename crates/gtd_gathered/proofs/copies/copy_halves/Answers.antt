-- The second half lies behind as many bytes as are left of the first.
use Rattle.std.proofs.Common.{rules, ◌≡◌, ◌++◌, ◌-◌, arith, take, drop, length, refl}
use Rattle.gtd_gathered.proofs.TwoHalves.{halves-are}
use Rattle.gtd_gathered.proofs.copies.copy_halves.Goals as goal

pub returns : goal.returns
returns c =
    let bytes = c.args.bytes.now in
    let text = c.args.text.now in
    let first = c.copy_from_slice-2.new.self ++ c.split_at_mut-front.result.1.now in
    let one : first ≡ take 32 bytes ++ drop 32 text = search rules in
    let front : c.split_at_mut-rest.result.0.now ≡ take (length bytes - 32) first = search rules in
    let back : c.copy_from_slice-4.new.self ≡ drop (length bytes - 32) bytes = search rules in
    let behind : c.split_at_mut-back.result.1.now ≡ drop 32 (drop (length bytes - 32) first) = search rules in
    record {
      text = halves-are (length bytes) (length bytes - 32) bytes text first _ _ _ refl c.requires.least c.requires.most
          (let l = c.requires.least in omega (arith, l)) one front back behind;
    }
