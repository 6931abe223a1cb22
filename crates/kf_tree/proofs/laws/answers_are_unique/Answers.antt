use Rattle.kf_tree.proofs.Unique.{one_listing, one_post_order, one_canonical}
use Rattle.kf_tree.proofs.OneText.{one_text}
use Rattle.kf_tree.proofs.laws.answers_are_unique.Goals as goal

pub returns : goal.returns
returns c = record {
  listing = one_listing;
  post_order = λ t root top a b l p q. one_post_order t root l top a b p q;
  canonical = λ t root a b l p q. one_canonical t root l a b p q;
  link_text = λ t root key a b l p q. one_text t root l key a b p q;
}
