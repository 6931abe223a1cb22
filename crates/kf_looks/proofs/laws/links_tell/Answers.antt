use Rattle.kf_looks.proofs.Gone.{never_found}
use Rattle.kf_looks.proofs.Naming.{first_link, other_link}
use Rattle.kf_looks.proofs.laws.links_tell.Goals as goal

pub returns-clause-never_found_again : goal.returns-clause-never_found_again
returns-clause-never_found_again c = never_found

pub returns-clause-last_link_leads : goal.returns-clause-last_link_leads
returns-clause-last_link_leads c = first_link

pub returns-clause-others_stay : goal.returns-clause-others_stay
returns-clause-others_stay c = other_link
