pub mod RatesLaws
