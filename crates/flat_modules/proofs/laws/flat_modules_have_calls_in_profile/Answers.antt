use Rattle.flat_modules.proofs.InProfile.{calls-in-profile}
use Rattle.flat_modules.proofs.laws.flat_modules_have_calls_in_profile.Goals as goal

pub returns : goal.returns
returns c = calls-in-profile
