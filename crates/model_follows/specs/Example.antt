-- What is asked of worlds holds of one with a stobj, a child, and a function that writes the child.
use Rattle.model_in_place.specs.Example.{world}
use Rattle.model_follows.specs.FollowedWorlds.{IsFollowed}

pub record IsExampleFollowed : Type 0 where
  pub followed : IsFollowed world 200
