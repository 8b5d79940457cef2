mod NumberLaws
mod ValueLaws
mod ZeroLaws
