-- What an answer says.
use Rattle.std.specs.Prelude.{◌≡◌}
use Rattle.model_output_so_far.specs.Sessions as model
use Rattle.acl_answers.specs.declared.Answer.{Answer}

-- the answer says this
pub record Says (answered : model.Answered) (answer : Answer) : Type 0 where
  pub line : answer.line.items ≡ answered.line
  pub calls : answer.calls ≡ answered.calls
  pub is_error : answer.is_error ≡ answered.is_error

-- and this is the session after it
pub record Answers (answered : model.Answered) (after : model.Session) (answer : Answer) : Type 0 where
  pub says : Says answered answer
  pub session : after ≡ answered.session
