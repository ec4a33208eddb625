-- What search doesn't prove of `built_in_rules_are_of_one_family`: what it returns, step by step.
use Rattle.std.proofs.Common.{refl}
use Rattle.schema_laws.proofs.ruling.built_in_rules_are_of_one_family.Goals as goal

pub returns : goal.returns
returns c = (
  record { ordering = refl; substrings = refl },
  (
    record {
      ordering = refl;
      substrings =
          refl;
    },
    (
      record { ordering = refl; substrings = refl },
      (
        record {
          ordering = refl;
          substrings =
              refl;
        },
        (
          record { ordering = refl; substrings = refl },
          (
            record {
              ordering = refl;
              substrings =
                  refl;
            },
            (
              record { ordering = refl; substrings = refl },
              (
                record {
                  ordering = refl;
                  substrings =
                      refl;
                },
                (
                  record { ordering = refl; substrings = refl },
                  (
                    record {
                      ordering = refl;
                      substrings =
                          refl;
                    },
                    (
                      record { ordering = refl; substrings = refl },
                      (
                        record {
                          ordering = refl;
                          substrings =
                              refl;
                        },
                        (
                          record { ordering = refl; substrings = refl },
                          (
                            record {
                              ordering = refl;
                              substrings =
                                  refl;
                            },
                            (
                              record { ordering = refl; substrings = refl },
                              (
                                record {
                                  ordering = refl;
                                  substrings =
                                      refl;
                                },
                                tt,
                              ),
                            ),
                          ),
                        ),
                      ),
                    ),
                  ),
                ),
              ),
            ),
          ),
        ),
      ),
    ),
  ),
)
