use Rattle.std.proofs.Common.{rules, ◌≡◌, ℤ, of_z, to_z, to_z-of_z, w64, subst, sym}
use Rattle.office_store.specs.declared.desk.faults.DeskFault.{DeskFault}
use Rattle.office_cli.specs.DeskFaults.{RefusesDesk, RefusesVersion}
use Rattle.room_types.specs.Streams.{output_of}
use Rattle.office_cli.proofs.desk_faults.refuse_desk.Goals as goal

pub returns-in-OtherVersion-clause-refuses : goal.returns-in-OtherVersion-clause-refuses
returns-in-OtherVersion-clause-refuses g c =
    let version = c.in-OtherVersion.version in
    let same : to_z w64 (of_z w64 version) ≡ version = to_z-of_z {w = w64} (search rules) in
    let out = output_of g.W.Write.contents c.args.output.now in
    let out' = output_of g.W.Write.contents c.refuse_version.new.output in
    subst (λ (f : DeskFault). RefusesDesk f c.refuse_version.result out out') (sym c.in-OtherVersion.is)
    (subst (λ (z : ℤ). RefusesVersion z c.refuse_version.result out out') same c.refuse_version.ensures.refuses)
