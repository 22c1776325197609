-- Demand 3, of a call that gets as far as typing, whatever it is given (specs/GivenDemands).
use Rattle.report.specs.Tables.{Tables}
use Rattle.report.specs.Calls.{Call, Given, GetsTo, whole, answer, GetsAsFarAsTyping, OwnNumbers}
use Rattle.report.specs.GivenDemands.{Forms, Demanded, DemandsTo}
use Rattle.report.specs.declared.Reading.{Reading}
use Rattle.report.proofs.CallLaws.{whole_forms}
use Rattle.report.proofs.Refusing.{given_broken, given_named, given_never}
use Rattle.report.proofs.WrittenAccepted.{given_passes, given_shown, given_written}

pub demands_to : (G : Given) → Forms G → {call : Call} → OwnNumbers call → GetsTo G call → DemandsTo G call
demands_to G forms {call} own gets = record {
  broken = given_broken G forms own gets;
  named = given_named G forms own gets;
  never = given_never G forms own gets;
  passing = λ e c ok. given_passes G forms Reading.Strict call e c ok;
  showing = λ e c ok. given_shown G forms Reading.Strict call e c ok;
  writing = λ e c ok. given_written G forms Reading.Strict call e c ok;
}

pub whole_demands : (T : Tables) {call : Call} → OwnNumbers call → GetsAsFarAsTyping T call → Demanded T (answer T Reading.Strict call)
whole_demands T = demands_to (whole T) (whole_forms T)
