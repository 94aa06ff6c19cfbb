use Rattle.std.proofs.Common.{sym, ap, subst}
use Rattle.vortex_select.specs.Answer.{HasCause}
use Rattle.vortex_select.specs.Words.{texts}
use Rattle.vortex_select.specs.declared.report.RunReport.{RunReport}
use Rattle.vortex_select.proofs.program.report_of.Goals as goal

pub returns-in_default-clause-cause : goal.returns-in_default-clause-cause
returns-in_default-clause-cause g c =
    let no_query = c.in_default.ensures.none in
    subst (HasCause (texts c.args.words.now) (g.S.Source.rest c.args.source.now)) (sym (ap (λ (report : RunReport). report.fault) c.report.ensures)) (λ asked. no_query asked.0 asked.1)
