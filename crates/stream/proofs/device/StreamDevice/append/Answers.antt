use Rattle.std.proofs.Common.{◌++◌, refl, arith, rules}
use Rattle.std.proofs.lemmas.List.{length-append}
use Rattle.devices.proofs.Keeping.{placed-length}
use Rattle.stream.proofs.Appending.{same_written, two_placed, whole_grown}
use Rattle.stream.proofs.device.StreamDevice.append.Goals as goal

pub invariant_of-self-2 : goal.invariant_of-self-2
invariant_of-self-2 c =
    let d = c.args.self.now in
    let h = c.args.head.now in
    let t = c.args.text.now in
    let short = d.short in
    let n = length-append h t in
    let out = two_placed d.out.now h t _ _ d.used c.copy_from_slice.ensures.after c.copy_from_slice-2.ensures.after short in
    let long = placed-length d.out.now d.used (h ++ t) (omega arith) in
    record {
      short = rw out (omega arith);
      narrow = d.narrow;
      whole = whole_grown d.out.now _ d.used _ d.letters (h ++ t) short (search rules) d.whole c.requires out (omega arith);
    }

pub returns-clause-held : goal.returns-clause-held
returns-clause-held c =
    let d = c.args.self.now in
    let h = c.args.head.now in
    let t = c.args.text.now in
    let n = length-append h t in
    same_written (two_placed d.out.now h t _ _ d.used c.copy_from_slice.ensures.after c.copy_from_slice-2.ensures.after d.short) (omega arith) refl
