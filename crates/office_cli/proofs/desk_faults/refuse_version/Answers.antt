use Rattle.std.proofs.Common.{rules, ◌≡◌, ◌∙◌, ap, inl, of_z, to_z, to_z-of_z, w64}
use Rattle.office_cli.specs.DeskFaults.{other_version_text}
use Rattle.office_cli.proofs.desk_faults.refuse_version.Goals as goal

pub returns-in-Ok-clause-refuses : goal.returns-in-Ok-clause-refuses
returns-in-Ok-clause-refuses g c =
    let same : to_z w64 (of_z w64 c.args.version) ≡ c.args.version = to_z-of_z {w = w64} (search rules) in
    let text : c.as_str.result.now ≡ other_version_text c.args.version =
    c.as_str.ensures.value ∙ c.in-Ok.ensures ∙ ap other_version_text same in
    inl (rw text at c.print.ensures.prints)
