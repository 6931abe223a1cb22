use Rattle.kf_files.proofs.own_post.OwnPostEventNumbers.now.Goals as goal

-- the result is that of the post inside
pub returns : goal.returns
returns g c = rw (← c.self.view_is)
    (record {
      given = record { same = c.now.ensures.same; found = c.now.ensures.found; next = c.now.ensures.next };
    })
