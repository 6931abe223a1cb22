use Rattle.kf_index.proofs.Belongs.{rising_of, key_of, lacks_of}
use Rattle.kf_index.proofs.chunks.Chunks.get.Goals as goal

pub key_in-requires : goal.key_in-requires
key_in-requires c = record { rising = rising_of _ _ _ _ c.chunk_for.ensures.part c.requires.rising }

pub returns-clause-found : goal.returns-clause-found
returns-clause-found c = key_of _ _ _ _ c.chunk_for.ensures.part _ c.key_in.ensures.found

pub returns-clause-absent : goal.returns-clause-absent
returns-clause-absent c = lacks_of _ _ _ _ c.chunk_for.ensures.part _ c.key_in.ensures.absent
