-- The law, from what is proved of every depth.
use Rattle.std.proofs.Common.{None, refl}
use Rattle.model_answers.specs.Laws.{FormsAnswer}
use Rattle.model_accepted.proofs.AcceptLemmas.{accepted_first}
use Rattle.model_answers.proofs.Opened.{answers_evaluated}
use Rattle.model_answers.specs.Beside.{named_variables}
use Rattle.model_follows.proofs.LawLemmas.{stands_anywhere}
use Rattle.model_eval.specs.InPlace.{placed}

pub forms_answer : FormsAnswer
forms_answer = record {
  answers = λ w base symbols threaded followed bg obligations c mode scope form expected suits seen n accepted formed suited limit d offset variables s a are fits sound knows together.
      (answers_evaluated w base symbols threaded followed limit bg obligations offset d).answers c mode scope form None expected
      (record {
        suited_world = record { suits = suits; seen = seen };
        runs = n;
        accepted = accepted_first c mode scope form expected accepted;
        formed = formed;
        suited = suited;
      }) variables s (record { stobjs = placed s.stobjs; symbols = s.symbols; calls = s.calls; outer = s.outer }) (named_variables s.symbols variables) a
      (record {
        are = are;
        stands = stands_anywhere w scope s.stobjs fits;
        same = record { symbols = refl; calls = refl; outer = refl };
        sound = sound;
        together = together;
        shown_are = refl;
        knows = knows;
      });
}
